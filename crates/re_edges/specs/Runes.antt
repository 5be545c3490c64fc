-- Sets of runes.
use Rattle.std.specs.Prelude.{ℕ, ◌||◌, Bool, true, false, List, [], ◌++◌, if◌then◌else◌}
use Rattle.re_syntax.specs.Match.{is_in}
use Rattle.re_edges.specs.declared.runes.RuneSet.{RuneSet}

abbrev pub no_runes : RuneSet
no_runes = record { every = false; spans = [] }

-- the set has the rune
abbrev pub has_rune : RuneSet → ℕ → Bool
has_rune s c = s.every || is_in s.spans c

abbrev pub with_spans : RuneSet → List (ℕ × ℕ) → RuneSet
with_spans s spans = record s { spans = s.spans ++ spans }

abbrev pub with_every : RuneSet → RuneSet
with_every s = record s { every = true }

-- with the runes of a class, and with every rune for the negation of one
abbrev pub with_class : Bool → List (ℕ × ℕ) → RuneSet → RuneSet
with_class negated spans s = if negated then with_every s else with_spans s spans
