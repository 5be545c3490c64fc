-- Exec and Look, as items where the window's event file is open, and done where it isn't or where
-- an item is written back.
use Rattle.std.specs.Prelude.{ℕ, List, [], ◌∷◌, Option, Some, None, if◌then◌else◌}
use Rattle.acme_cmd.specs.declared.expansion.Click.TheVariants as click
use Rattle.event_book.specs.BookState.{is_open_window, item_of}
use Rattle.win_events.specs.declared.item.Item.{Item}
use Rattle.win_events.specs.declared.item.Sort.{Sort}
use Rattle.win_events.specs.declared.item.Sort.TheVariants as sort
use Rattle.core_scene.specs.declared.deed.Entry.{Entry}
use Rattle.core_scene.specs.declared.deed.Deed.{Deed}
use Rattle.core_scene.specs.declared.deed.Deed.TheVariants as deed
use Rattle.core_scene.specs.Scenes.{SceneState}
use Rattle.am_journal.specs.declared.event.Spot.{Spot}
use Rattle.core_exec.specs.declared.click.Clicked.{Clicked}
use Rattle.core_exec.specs.Clicks.{clicked_at, own_text, argument_if_any, text_if_any, exec_item, look_item}
use Rattle.core_exec.specs.Executing.{Executed, exec_deeds}
use Rattle.core_exec.specs.Looking.{look_step, look_at_text_deeds}

-- ---- clicks

-- an Exec, which is told where the event file is open
unfoldable pub exec_click : Entry → Spot → Option (List ℕ × List ℕ) → Clicked → SceneState → List Deed
exec_click e at argument c s =
    if is_open_window s.book at.window then deed.Item at.window (exec_item at c argument) ∷ []
    else exec_deeds e at.window (record { text = own_text c.text c.expanded; chord = text_if_any argument }) s

-- an Exec at a place that stands for a text
abbrev pub exec_clicked : Entry → Spot → Option (List ℕ × List ℕ) → Option Clicked → SceneState → List Deed
exec_clicked e at argument None s = []
exec_clicked e at argument (Some c) s = exec_click e at argument c s

-- Exec of a range, with the argument of a chord if there is one: an item and nothing else while the event file
-- is open, else it is done.
abbrev pub exec_at_deeds : Entry → Spot → Option Spot → SceneState → List Deed
exec_at_deeds e at chord s = exec_clicked e at (argument_if_any s.windows chord) (clicked_at s.windows at click.Exec) s

-- a Look, which is told where the event file is open
unfoldable pub look_click : Entry → Spot → Clicked → SceneState → List Deed
look_click e at c s =
    if is_open_window s.book at.window then deed.Item at.window
    (look_item at c (look_step at.window (own_text c.text c.expanded) s)) ∷ []
    else look_at_text_deeds e at.window (own_text c.text c.expanded) s

-- a Look at a place that stands for a text
abbrev pub look_clicked : Entry → Spot → Option Clicked → SceneState → List Deed
look_clicked e at None s = []
look_clicked e at (Some c) s = look_click e at c s

-- Look at a range, likewise.
abbrev pub look_at_deeds : Entry → Spot → SceneState → List Deed
look_at_deeds e at s = look_clicked e at (clicked_at s.windows at click.Look) s

-- ---- items that are written back

-- the action of an item of this sort, with this text
abbrev pub action_of : Entry → ℕ → Sort → Executed → SceneState → List Deed
action_of e w sort.BodyExec x s = exec_deeds e w x s
action_of e w sort.TagExec x s = exec_deeds e w x s
action_of e w sort.BodyLook x s = look_at_text_deeds e w x.text s
action_of e w sort.TagLook x s = look_at_text_deeds e w x.text s
action_of e w sort.BodyDel x s = []
action_of e w sort.TagDel x s = []
action_of e w sort.BodyIns x s = []
action_of e w sort.TagIns x s = []

-- an item's own text, and its chord's
abbrev pub executed_of : Item → Executed
executed_of item = record { text = own_text item.text item.expanded; chord = text_if_any item.argument }

-- the action of an item that is written back, if there is one
abbrev pub back_deeds : Entry → ℕ → Option Item → SceneState → List Deed
back_deeds e w None s = []
back_deeds e w (Some item) s = action_of e w item.sort (executed_of item) s

-- The window's item of this number is done, as if the event file were closed.
abbrev pub act_on_deeds : Entry → ℕ → ℕ → SceneState → List Deed
act_on_deeds e w number s = back_deeds e w (item_of s.book w number) s
