-- Cut, Snarf and Paste.
use Rattle.std.specs.Prelude.{ℕ, ◌+◌, ◌-◌, ◌==◌, List, [], ◌∷◌, ◌++◌, length, Option, if◌then◌else◌}
use Rattle.am_text.specs.declared.range.Range.{Range}
use Rattle.core_addresses.specs.Data.{replacement}
use Rattle.core_windows.specs.Possible.{text_in}
use Rattle.core_windows.specs.Windows.{Window, window_at}
use Rattle.core_windows.specs.declared.change.Change.TheVariants as change
use Rattle.core_windows.specs.declared.change.Setting.TheVariants as setting
use Rattle.core_scene.specs.declared.deed.Deed.{Deed}
use Rattle.core_scene.specs.declared.deed.Deed.TheVariants as deed
use Rattle.core_scene.specs.Scenes.{SceneState}
use Rattle.core_actions.specs.declared.fault.ActionFault.TheVariants as fault
use Rattle.core_actions.specs.Seen.{dot_of, dot_text, fits}
use Rattle.core_actions.specs.Outcomes.{Outcome, does, fails}

-- the text that is selected is snarfed, where there is one
abbrev pub snarf_deeds : ℕ → SceneState → List Deed
snarf_deeds w s =
    if (dot_of (window_at s.windows w)).q0 == (dot_of (window_at s.windows w)).q1 then []
    else deed.Snarfs (dot_text (window_at s.windows w)) ∷ []

-- and it is removed
abbrev pub cut_deeds : ℕ → SceneState → List Deed
cut_deeds w s = snarf_deeds w s ++ deed.Windows (change.Edits w (replacement (dot_of (window_at s.windows w)) [])) ∷ []

-- a range, once a text has taken its place
abbrev pub range_put : Range → List ℕ → Range
range_put r text = record { q0 = r.q0; q1 = r.q0 + length text }

-- a text takes the place of a range, and is dot
abbrev pub put_over : ℕ → Range → List ℕ → List Deed
put_over w r text =
    deed.Windows (change.Edits w (replacement r text)) ∷ deed.Windows (change.Sets w (setting.Dot (range_put r text)))
    ∷ []

-- how many runes are left without the text that is selected
abbrev pub size_around : Option Window → ℕ
size_around window = length (text_in window) - ((dot_of window).q1 - (dot_of window).q0)

-- the snarfed text takes the place of the text that is selected, and is selected
abbrev pub paste_outcome : ℕ → SceneState → Outcome
paste_outcome w s =
    if fits (size_around (window_at s.windows w)) (length s.snarf)
    then does (put_over w (dot_of (window_at s.windows w)) s.snarf)
    else fails fault.TextTooLong
