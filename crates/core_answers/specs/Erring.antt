-- Texts for windows: what is put at the end of a body, and what is written to `errors` and `cons`.
use Rattle.std.specs.Prelude.{ℕ, ◌+◌, ◌==◌, Bool, nat_le, List, [], ◌∷◌, length, codes, Option, Some, None}
use Rattle.std.specs.Prelude.{if◌then◌else◌}
use Rattle.edit_log.specs.declared.types.Edit.{Edit}
use Rattle.acme_tree.specs.Trees.{world_is_full}
use Rattle.win_ctl.specs.Directory.{directory, errors_name}
use Rattle.win_ctl.specs.Limits.{tag_runes}
use Rattle.win_text.specs.Limits.{body_runes}
use Rattle.core_windows.specs.declared.change.Change.{Change}
use Rattle.core_windows.specs.declared.change.Change.TheVariants as change
use Rattle.core_windows.specs.Windows.{Window, world_of}
use Rattle.core_fids.specs.declared.refusal.Refusal.{Refusal}
use Rattle.core_fids.specs.declared.refusal.Refusal.TheVariants as refusal
use Rattle.core_answers.specs.Texts.{text_at, name_of}

-- a body has at most 16,777,216 runes, and the right part of a tag 65,536
abbrev pub fits_in : List ℕ → List ℕ → Bool
fits_in text more = nat_le (length text + length more) body_runes

-- whether a tag has room for more
abbrev pub fits_tag : List ℕ → List ℕ → Bool
fits_tag right more = nat_le (length right + length more) tag_runes

-- the edit that puts a text at the end of another; an empty text is none
abbrev pub edits_at_end : List ℕ → List ℕ → List Edit
edits_at_end text more =
    if length more == 0 then [] else record { q0 = length text; q1 = length text; text = more } ∷ []

-- a text goes to the end of a window's body
abbrev pub appends : List (Option Window) → ℕ → List ℕ → List Change
appends windows w more = change.Edits w (edits_at_end (text_at windows w) more) ∷ []

-- ---- errors windows

-- the errors window of a window's directory
abbrev pub errors_of : Option Window → List ℕ
errors_of window = errors_name (directory (name_of window))

-- that of the directory `/`, to which `cons` writes
abbrev pub root_errors : List ℕ
root_errors = errors_name (codes "/")

-- the text is put at the end of the window; where there is none of that name, one is made first
abbrev pub errors_changes : List (Option Window) → List ℕ → Option ℕ → List ℕ → List Change
errors_changes windows name None text =
    change.Makes name ∷ change.Edits (world_of windows).next (edits_at_end [] text) ∷ []
errors_changes windows name (Some w) text = appends windows w text

-- why a text doesn't go to the end of another
abbrev pub long_refusal : List ℕ → List ℕ → Option Refusal
long_refusal text more = if fits_in text more then None else Some refusal.TextTooLong

-- why a text doesn't go to an errors window
abbrev pub errors_refusal : List (Option Window) → Option ℕ → List ℕ → Option Refusal
errors_refusal windows None text =
    if world_is_full (world_of windows) then Some refusal.TooManyWindows else long_refusal [] text
errors_refusal windows (Some w) text = long_refusal (text_at windows w) text
