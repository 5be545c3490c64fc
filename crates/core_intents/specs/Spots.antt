-- Ranges of the texts of windows, which are executed and looked at.
use Rattle.std.specs.Prelude.{ℕ, ◌+◌, ◌&&◌, ◌==◌, not, nat_le, Bool, List, length, Option, Some, None, if◌then◌else◌}
use Rattle.am_journal.specs.declared.event.Spot.{Spot}
use Rattle.am_journal.specs.declared.event.Why.{Why}
use Rattle.am_journal.specs.declared.event.Why.TheVariants as why
use Rattle.win_ctl.specs.declared.tags.Shown.{Shown}
use Rattle.core_windows.specs.Windows.{Window, window_at}
use Rattle.core_tasks.specs.Tasks.{acted_text}
use Rattle.core_intents.specs.Enabled.{first_why}

-- the window lives
abbrev pub window_refusal : Option Window → Option Why
window_refusal None = Some why.Window
window_refusal (Some window) = None

-- the range lies in the text: the body, or the whole text of the tag
abbrev pub text_refusal : Option Window → Spot → Option Why
text_refusal window at = if nat_le at.range.q1 (length (acted_text window at.side)) then None else Some why.Range

-- why a place isn't one of a text
abbrev pub spot_refusal : List (Option Window) → Spot → Option Why
spot_refusal windows at =
    first_why (window_refusal (window_at windows at.window)) (text_refusal (window_at windows at.window) at)

-- first both windows are looked at, and then both ranges
abbrev pub arg_refusal : List (Option Window) → Spot → Spot → Option Why
arg_refusal windows at chord =
    first_why (window_refusal (window_at windows at.window))
    (first_why (window_refusal (window_at windows chord.window))
    (first_why (text_refusal (window_at windows at.window) at) (text_refusal (window_at windows chord.window) chord)))

-- ---- the length of a tag

-- the length, where the test holds
abbrev pub len_if : Bool → ℕ → ℕ
len_if b n = if b then n else 0

-- how many runes stand between the name and the right part
abbrev pub words_len : List ℕ → Shown → ℕ
words_len name s =
    12 + len_if s.undo 5 + len_if s.redo 5 + len_if (not (length name == 0) && s.modified && not s.dir) 4
    + len_if s.dir 4
