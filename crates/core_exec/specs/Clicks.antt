-- Clicks on texts of windows, and the items that they make (acme(1), acme(4)).
use Rattle.std.specs.Prelude.{ℕ, ◌+◌, nat_lt, Bool, true, false, List, [], ◌++◌, slice_range, codes, IsSome, is_some}
use Rattle.std.specs.Prelude.{Option, Some, None, if◌then◌else◌}
use Rattle.std.specs.Fmt.{decimal}
use Rattle.acme_cmd.specs.Commands.{classified}
use Rattle.acme_cmd.specs.Expansion.{expansion}
use Rattle.acme_cmd.specs.declared.command.Command.{Command}
use Rattle.acme_cmd.specs.declared.command.Command.TheVariants as command
use Rattle.acme_cmd.specs.declared.expansion.Click.{Click}
use Rattle.am_journal.specs.declared.event.Side.{Side}
use Rattle.am_journal.specs.declared.event.Side.TheVariants as side
use Rattle.am_text.specs.declared.range.Range.{Range}
use Rattle.core_scene.specs.NewItems.{tag_with}
use Rattle.core_windows.specs.Windows.{Window, window_at}
use Rattle.core_actions.specs.Seen.{name_of}
use Rattle.win_text.specs.Bodies.{IsInside}
use Rattle.win_events.specs.declared.item.Item.{Item}
use Rattle.win_events.specs.declared.item.Origin.TheVariants as origin
use Rattle.win_events.specs.declared.item.Sort.{Sort}
use Rattle.win_events.specs.declared.item.Sort.TheVariants as sort
use Rattle.am_journal.specs.declared.event.Spot.{Spot}
use Rattle.core_exec.specs.declared.click.Clicked.{Clicked}
use Rattle.core_exec.specs.declared.looking.LookStep.{LookStep}
use Rattle.core_exec.specs.declared.looking.LookStep.TheVariants as step

-- ---- texts of windows

-- the text of a window's side
abbrev pub side_text : Option Window → Side → List ℕ
side_text None s = []
side_text (Some window) side.Body = window.body.text
side_text (Some window) side.Tag = tag_with window window.right

-- only the body has a dot
abbrev pub dot_in : Option Window → Side → Option Range
dot_in None s = None
dot_in (Some window) side.Body = Some window.body.dot
dot_in (Some window) side.Tag = None

-- the runes of a range
abbrev pub part_of : List ℕ → Range → List ℕ
part_of text r = slice_range text r.q0 r.q1

-- the range lies in that text of a window that lives
pub record IsSpot (windows : List (Option Window)) (at : Spot) : Type 0 where
  pub lives : IsSome (window_at windows at.window)
  pub inside : IsInside (side_text (window_at windows at.window) at.side) at.range

-- ---- what a click stands for

-- a click that was expanded to a range
abbrev pub expanded_to : List ℕ → Option Range → Option Clicked
expanded_to text None = None
expanded_to text (Some r) = Some (record { text = []; expanded = Some (r, part_of text r) })

-- A range that isn't null stands for its text, a null one for what it is expanded to, if it is to anything.
abbrev pub clicked : List ℕ → Option Range → Range → Click → Option Clicked
clicked text dot r how =
    if nat_lt r.q0 r.q1 then Some (record { text = part_of text r; expanded = None })
    else expanded_to text (expansion text dot r.q0 how)

-- what a click at a place stands for
abbrev pub clicked_at : List (Option Window) → Spot → Click → Option Clicked
clicked_at windows at how =
    clicked (side_text (window_at windows at.window) at.side)
    (dot_in (window_at windows at.window) at.side) at.range how

-- the text of an item: where its range was null, that of the expansion
abbrev pub own_text : List ℕ → Option (Range × List ℕ) → List ℕ
own_text text None = text
own_text text (Some e) = e.1

-- ---- the argument of a chord: its text, and its place

-- the name of a file and a range in it
unfoldable pub place_text : List ℕ → Range → List ℕ
place_text name r = name ++ codes ":#" ++ decimal r.q0 ++ codes ",#" ++ decimal r.q1

-- the argument at a place, and where that is
abbrev pub argument_at : List (Option Window) → Spot → List ℕ × List ℕ
argument_at windows at = (
  part_of (side_text (window_at windows at.window) at.side) at.range,
  place_text
      (name_of (window_at windows at.window)) at.range,
)

-- the argument, if there is a chord
abbrev pub argument_if_any : List (Option Window) → Option Spot → Option (List ℕ × List ℕ)
argument_if_any windows None = None
argument_if_any windows (Some at) = Some (argument_at windows at)

-- the text of an argument
abbrev pub text_if_any : Option (List ℕ × List ℕ) → Option (List ℕ)
text_if_any None = None
text_if_any (Some a) = Some a.0

-- ---- items

-- the type of an Exec's item
abbrev pub exec_sort : Side → Sort
exec_sort side.Body = sort.BodyExec
exec_sort side.Tag = sort.TagExec

-- the type of a Look's item
abbrev pub look_sort : Side → Sort
look_sort side.Body = sort.BodyLook
look_sort side.Tag = sort.TagLook

-- ---- flags of items (acme(4))

-- the command is a built-in one, or the look can be done without loading a file
abbrev pub within_flag : ℕ
within_flag = 1

-- the range is null
abbrev pub null_flag : ℕ
null_flag = 2

-- the text names a file or a window
abbrev pub names_flag : ℕ
names_flag = 4

-- the messages of an argument follow
abbrev pub chord_flag : ℕ
chord_flag = 8

-- the flag, where the test holds
abbrev pub flag_if : Bool → ℕ → ℕ
flag_if b n = if b then n else 0

-- whether a command is a built-in one
abbrev pub is_builtin : Command → Bool
is_builtin (command.Builtin b r) = true
is_builtin (command.Pipe k r) = false
is_builtin command.External = false

-- the flags of an Exec
abbrev pub exec_flag : Clicked → Bool → ℕ
exec_flag c chord =
    flag_if (is_builtin (classified (own_text c.text c.expanded))) within_flag + flag_if (is_some c.expanded) null_flag
    + flag_if chord chord_flag

-- the item of an Exec
abbrev pub exec_item : Spot → Clicked → Option (List ℕ × List ℕ) → Item
exec_item at c argument = record {
  origin = origin.M;
  sort = exec_sort at.side;
  range = at.range;
  flag = exec_flag c (is_some argument);
  text = c.text;
  expanded = c.expanded;
  argument = argument;
}

-- the flags of a look by its step; it has none where the plumber takes it
abbrev pub step_flag : LookStep → ℕ
step_flag step.Plumbs = 0
step_flag step.Takes = within_flag + names_flag
step_flag step.Opens = names_flag
step_flag step.Searches = within_flag

-- a look whose first step that can be done is this one
abbrev pub look_item : Spot → Clicked → LookStep → Item
look_item at c first = record {
  origin = origin.M;
  sort = look_sort at.side;
  range = at.range;
  flag = step_flag first + flag_if (is_some c.expanded) null_flag;
  text = c.text;
  expanded = c.expanded;
  argument = None;
}
