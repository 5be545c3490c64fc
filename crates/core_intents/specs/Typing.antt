-- Keys and selections.
use Rattle.std.specs.Prelude.{ℕ, ◌+◌, ◌-◌, nat_le, List, [], ◌∷◌, length, Option, Some, None, if◌then◌else◌}
use Rattle.am_text.specs.declared.range.Range.{Range}
use Rattle.edit_log.specs.declared.types.Edit.{Edit}
use Rattle.am_journal.specs.declared.event.Side.{Side}
use Rattle.am_journal.specs.declared.event.Side.TheVariants.{Tag, Body}
use Rattle.am_journal.specs.declared.event.Why.{Why}
use Rattle.am_journal.specs.declared.event.Why.TheVariants as why
use Rattle.core_addresses.specs.Data.{replacement}
use Rattle.core_windows.specs.declared.change.Change.{Change}
use Rattle.core_windows.specs.declared.change.Change.TheVariants as change
use Rattle.core_windows.specs.declared.change.Setting.TheVariants as setting
use Rattle.core_windows.specs.Windows.{Window}
use Rattle.core_answers.specs.Erring.{fits_tag}
use Rattle.win_text.specs.Limits.{body_runes}

-- ---- keys

-- a body has at most 16,777,216 runes once dot's text is replaced
abbrev pub fits_body : Window → List ℕ → Option Why
fits_body window text =
    if nat_le (length window.body.text - (window.body.dot.q1 - window.body.dot.q0) + length text) body_runes then None
    else Some why.Length

-- why a text doesn't fit into a side
abbrev pub fits_side : Window → Side → List ℕ → Option Why
fits_side window Body text = fits_body window text
fits_side window Tag text = if fits_tag window.right text then None else Some why.Length

-- the window lives, and the text isn't too long then
abbrev pub key_refusal : Option Window → Side → List ℕ → Option Why
key_refusal None side text = Some why.Window
key_refusal (Some window) side text = fits_side window side text

-- In the body the text takes dot's place, and dot is then null behind it; in the tag it is put at the end.
abbrev pub edits_with_dot : ℕ → List Edit → Range → List Change
edits_with_dot w edits range = change.Edits w edits ∷ change.Sets w (setting.Dot range) ∷ []

-- a text takes the place of dot, or goes to the end of the tag
abbrev pub typed : ℕ → Window → Side → List ℕ → List Change
typed w window Body text =
    edits_with_dot w (replacement window.body.dot text)
    (record { q0 = window.body.dot.q0 + length text; q1 = window.body.dot.q0 + length text })
typed w window Tag text = change.Adds w text ∷ []

-- what a key changes
abbrev pub key_changes : ℕ → Option Window → Side → List ℕ → List Change
key_changes w None side text = []
key_changes w (Some window) side text = typed w window side text

-- ---- selections

-- the range lies in the body of a live window
abbrev pub sel_refusal : Option Window → Range → Option Why
sel_refusal None r = Some why.Window
sel_refusal (Some window) r = if nat_le r.q1 (length window.body.text) then None else Some why.Range

-- dot becomes the range
abbrev pub sel_changes : ℕ → Range → List Change
sel_changes w r = change.Sets w (setting.Dot r) ∷ []
