-- The places of a text in the order of a search.
use Rattle.std.specs.Prelude.{◌≤◌, ◌+◌, ◌-◌, ℕ}
use Rattle.re_spans.specs.Places.{Cells, past}
use Rattle.re_spans.specs.declared.way.Way.{Way}
use Rattle.re_spans.specs.declared.way.Way.TheVariants.{On, Back}

-- the place to which a search that begins at a place comes after so many turns
abbrev pub place_at : Way → ℕ → ℕ → ℕ
place_at On at turn = at + turn
place_at Back at turn = at - turn

-- these turns stay inside a text of so many runes
abbrev pub StaysInside : Way → ℕ → ℕ → ℕ → Type 0
StaysInside On at turns count = at + turns ≤ count
StaysInside Back at turns count = (turns ≤ at) × (at ≤ count)

-- where a search through a set begins
abbrev pub first : Way → Cells → ℕ
first On s = s.low
first Back s = past s - 1

-- the lower of two places that follow one another
abbrev pub lower : Way → ℕ → ℕ → ℕ
lower On i next = i
lower Back i next = next
