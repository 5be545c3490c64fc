-- Undo and Redo of the windows that one step changed, over journals.
use Rattle.std.specs.Prelude.{◌≡◌, ℕ, Bool, true, false, List, [], ◌∷◌, map, Option, Some, None, if◌then◌else◌}
use Rattle.std.specs.Option.{option_map}
use Rattle.acme_cmd.specs.Commands.{classified}
use Rattle.acme_cmd.specs.declared.command.Builtin.{Builtin}
use Rattle.acme_cmd.specs.declared.command.Builtin.TheVariants as builtin
use Rattle.acme_cmd.specs.declared.command.Command.TheVariants as command
use Rattle.acme_cmd.specs.declared.expansion.Click.TheVariants as click
use Rattle.am_text.specs.declared.range.Range.{Range}
use Rattle.am_journal.specs.declared.event.Event.{Event}
use Rattle.am_journal.specs.declared.event.Event.TheVariants as event
use Rattle.am_journal.specs.declared.event.Spot.{Spot}
use Rattle.edit_log.specs.Groups.{DoneGroup, before_last, with_first_of}
use Rattle.event_book.specs.BookState.{is_open_window, item_of}
use Rattle.win_events.specs.declared.item.Item.{Item}
use Rattle.win_events.specs.declared.item.Sort.{Sort}
use Rattle.win_events.specs.declared.item.Sort.TheVariants as sort
use Rattle.win_text.specs.Bodies.{History, text_of_groups}
use Rattle.win_text.specs.BodyStories.{story_text}
use Rattle.core_windows.specs.Windows.{window_at}
use Rattle.core_windows.specs.Stories.{WindowStory, story_at, shown_if_live, shown_windows, undone_window_story}
use Rattle.core_windows.specs.Stories.{redone_window_story}
use Rattle.core_actions.specs.declared.undoing.Move.{Move}
use Rattle.core_actions.specs.declared.undoing.Move.TheVariants as move
use Rattle.core_actions.specs.Undoing.{next_group, is_number, move_deeds}
use Rattle.core_exec.specs.declared.click.Clicked.{Clicked}
use Rattle.core_exec.specs.Clicks.{clicked_at, own_text}
use Rattle.core_intents.specs.Doings.{doing_of}
use Rattle.acme_core.specs.Run.{run, present_after}
use Rattle.core_laws.specs.Laws.{written_by}
use Rattle.am_journal.specs.declared.event.Journal.{Journal}
use Rattle.am_journal.specs.Journal.{longer}
use Rattle.core_laws.specs.Fronts.{followed}

-- What an entry does, after the entries before it, is Undo, or Redo, in this window.
abbrev pub IsMove : Journal → Event → Move → ℕ → Type 0
IsMove before e m w = (doing_of (present_after before) e).deeds ≡ move_deeds m w (present_after before).scene

-- the window with its next group moved: its text, the groups, and the clean mark
abbrev pub moved_story : Move → WindowStory → WindowStory
moved_story move.Undo s = undone_window_story s
moved_story move.Redo s = redone_window_story s

-- a window whose next group has this number, once that group is moved; any other, whole
abbrev pub moved_story_if : Move → Option ℕ → Option WindowStory → Option WindowStory
moved_story_if m None o = o
moved_story_if m (Some n) o = if is_number n (next_group m (shown_if_live o)) then option_map (moved_story m) o else o

-- the groups that are past then: those before the last one, or those with the first that was undone behind them
abbrev pub past_after : Move → History → List DoneGroup
past_after move.Undo h = before_last h.past
past_after move.Redo h = with_first_of h.future h.past

-- a window whose next group is moved has the text that stood before that group, or behind it
abbrev pub TextIsMoved : Move → WindowStory → Type 0
TextIsMoved m s =
    (n : ℕ) → next_group m (shown_if_live (Some s)) ≡ Some n → story_text (moved_story m s).body
    ≡ text_of_groups [] (past_after m s.body.history)

-- What Undo, or Redo, in a window makes of the windows.
pub record AreMoved (m : Move) (w : ℕ) (old new : List (Option WindowStory)) : Type 0 where
  -- The next group of each window is moved whose next group was begun by the same step as that window's. Any other
  -- window keeps everything; where that window has no group, all do.
  pub linked : new ≡ map (moved_story_if m (next_group m (window_at (shown_windows old) w))) old
  pub texts : (v : ℕ) (s : WindowStory) → story_at old v ≡ Some s → TextIsMoved m s

-- so it is at each such entry of a journal
abbrev pub MovesAreWhole : Journal → Type 0
MovesAreWhole journal =
    (before : Journal) (behind : List Event) (e : Event) (m : Move) (w : ℕ) → followed before (e ∷ behind) ≡ journal
    → IsMove before e m w
    → AreMoved m w (run before).windows (run (longer before e)).windows

-- the built-in command of a move
abbrev pub builtin_of : Move → Builtin
builtin_of move.Undo = builtin.Undo
builtin_of move.Redo = builtin.Redo

-- an item of this type is of an Exec
abbrev pub is_exec : Sort → Bool
is_exec sort.BodyExec = true
is_exec sort.TagExec = true
is_exec other = false

-- Executing Undo, or Redo, is such an entry of a journal.
pub record MovesAreExecuted (journal : Journal) : Type 0 where
  -- An Exec of it in a window whose event file isn't open,
  pub exec : (before : Journal) (behind : List Event) (at : Spot) (c : Clicked) (m : Move) (r : Range)
      → followed before (event.Exec at ∷ behind) ≡ journal
      → is_open_window (present_after before).scene.book at.window ≡ false
      → clicked_at (present_after before).scene.windows at click.Exec ≡ Some c
      → classified (own_text c.text c.expanded) ≡ command.Builtin (builtin_of m) r
      → IsMove before (event.Exec at) m at.window
  -- also one with an argument,
  pub arg : (before : Journal) (behind : List Event) (at chord : Spot) (c : Clicked) (m : Move) (r : Range)
      → followed before (event.Arg at chord ∷ behind) ≡ journal
      → is_open_window (present_after before).scene.book at.window ≡ false
      → clicked_at (present_after before).scene.windows at click.Exec ≡ Some c
      → classified (own_text c.text c.expanded) ≡ command.Builtin (builtin_of m) r
      → IsMove before (event.Arg at chord) m at.window
  -- and an entry that writes back the item of one.
  pub back : (before : Journal) (behind : List Event) (e : Event) (w n : ℕ) (item : Item) (m : Move) (r : Range)
      → followed before (e ∷ behind) ≡ journal
      → written_by before e ≡ Some (record { window = w; number = n }) → item_of (present_after before).scene.book w n
      ≡ Some item → is_exec item.sort ≡ true
      → classified (own_text item.text item.expanded) ≡ command.Builtin (builtin_of m) r → IsMove before e m w

-- So it is in each journal.
abbrev pub ExecutedMovesAreMoves : Type 0
ExecutedMovesAreMoves = (journal : Journal) → MovesAreExecuted journal
