-- What a step does to the scene, before it is known which deeds that takes.
use Rattle.std.specs.Prelude.{◌≡◌, ℕ, false, List, [], ◌∷◌, Option, Some, None, IsSome, IfSome}
use Rattle.am_text.specs.Lines.{lines_of}
use Rattle.am_journal.specs.declared.event.Side.{Side}
use Rattle.am_journal.specs.declared.event.Spot.{Spot}
use Rattle.name_tree.specs.Kinds.{file_clashes, directory_clashes}
use Rattle.core_windows.specs.Windows.{Window, window_at}
use Rattle.core_windows.specs.Possible.{CanChangeAll}
use Rattle.core_scene.specs.declared.deed.Entry.{Entry}
use Rattle.core_scene.specs.declared.deed.Deed.{Deed}
use Rattle.core_scene.specs.declared.deed.Deed.TheVariants as deed
use Rattle.core_scene.specs.Changing.{deeds_of}
use Rattle.core_scene.specs.Scenes.{SceneState}
use Rattle.core_fids.specs.declared.refusal.Refusal.{Refusal}
use Rattle.core_rules.specs.Writing.{rules_outcome, rest_outcome, held_after, clear_deeds}
use Rattle.core_rules.specs.Sending.{send_outcome}
use Rattle.core_exec.specs.Clicks.{side_text, IsSpot}
use Rattle.core_exec.specs.Acting.{exec_at_deeds, look_at_deeds, act_on_deeds}
use Rattle.core_tasks.specs.declared.task.Task.{Task}
use Rattle.core_tasks.specs.declared.task.Task.TheVariants as task
use Rattle.core_tasks.specs.Controls.{controls}
use Rattle.core_tasks.specs.Plumbing.{rules_if_any, send_if_any}

-- the deeds of a task, as the scene stands
unfoldable pub task_deeds : Entry → Task → SceneState → List Deed
task_deeds e (task.Changes changes) s = deeds_of changes
task_deeds e (task.Exec at chord) s = exec_at_deeds e at chord s
task_deeds e (task.Look at) s = look_at_deeds e at s
task_deeds e (task.Controls w text) s = (controls e w (lines_of text) s).deeds
task_deeds e (task.Back w number) s = act_on_deeds e w number s
task_deeds e (task.Stores path bytes) s = deed.Stores path bytes ∷ []
task_deeds e (task.MakesDir path) s = deed.MakesDir path ∷ []
task_deeds e task.ClearsRules s = clear_deeds
task_deeds e (task.AddsRules text) s = (rules_outcome text s).deeds
task_deeds e (task.AddsRest text) s = (rest_outcome text s).deeds
task_deeds e (task.Sends text) s = (send_outcome e text s).deeds

-- Why a task is refused, if it is. Control messages are, and what is written to the plumber's files. Those control
-- messages and plumb messages that stand before the one that is refused stay done.
unfoldable pub task_refusal : Entry → Task → SceneState → Option Refusal
task_refusal e (task.Changes changes) s = None
task_refusal e (task.Exec at chord) s = None
task_refusal e (task.Look at) s = None
task_refusal e (task.Controls w text) s = (controls e w (lines_of text) s).refusal
task_refusal e (task.Back w number) s = None
task_refusal e (task.Stores path bytes) s = None
task_refusal e (task.MakesDir path) s = None
task_refusal e task.ClearsRules s = None
task_refusal e (task.AddsRules text) s = rules_if_any (rules_outcome text s).refusal
task_refusal e (task.AddsRest text) s = rules_if_any (rest_outcome text s).refusal
task_refusal e (task.Sends text) s = send_if_any (send_outcome e text s).refusal

-- What the fid holds then that was written to, where the task says it: of a text of rules or of plumb messages what
-- isn't whole yet, and nothing behind a refusal.
unfoldable pub task_held : Entry → Task → SceneState → Option (List ℕ)
task_held e (task.Changes changes) s = None
task_held e (task.Exec at chord) s = None
task_held e (task.Look at) s = None
task_held e (task.Controls w text) s = None
task_held e (task.Back w number) s = None
task_held e (task.Stores path bytes) s = None
task_held e (task.MakesDir path) s = None
task_held e task.ClearsRules s = None
task_held e (task.AddsRules text) s = Some (held_after text (rules_outcome text s).refusal)
task_held e (task.AddsRest text) s = None
task_held e (task.Sends text) s = Some (send_outcome e text s).held

-- the text in which a range that is acted on has to lie
abbrev pub acted_text : Option Window → Side → List ℕ
acted_text = side_text

-- the range lies in it, and the window lives
abbrev pub CanBeActedOn : List (Option Window) → Spot → Type 0
CanBeActedOn = IsSpot

-- what a task names is there, and what it stores or makes clashes with nothing
abbrev pub CanDoTask : Entry → SceneState → Task → Type 0
CanDoTask e s (task.Changes changes) = CanChangeAll e.at s.windows changes
CanDoTask e s (task.Exec at chord) = CanBeActedOn s.windows at × IfSome chord (CanBeActedOn s.windows)
CanDoTask e s (task.Look at) = CanBeActedOn s.windows at
CanDoTask e s (task.Controls w text) = IsSome (window_at s.windows w)
CanDoTask e s (task.Back w number) = IsSome (window_at s.windows w)
CanDoTask e s (task.Stores path bytes) = file_clashes s.files path ≡ false
CanDoTask e s (task.MakesDir path) = directory_clashes s.files path ≡ false
CanDoTask e s task.ClearsRules = Unit {0}
CanDoTask e s (task.AddsRules text) = Unit {0}
CanDoTask e s (task.AddsRest text) = Unit {0}
CanDoTask e s (task.Sends text) = Unit {0}
