-- Which places spans lead to.
use Rattle.std.specs.Prelude.{◌<◌, ◌≤◌, ◌↔◌, ◌||◌, ℕ, Bool, IsTrue}
use Rattle.re_syntax.specs.Match.{Repeats}
use Rattle.re_spans.specs.Places.{Cells, past, has}
use Rattle.re_spans.specs.Marks.{passes}
use Rattle.re_spans.specs.declared.way.Way.{Way}
use Rattle.re_spans.specs.declared.way.Way.TheVariants.{On, Back}
use Rattle.re_spans.specs.declared.marks.Mark.{Mark}
use Rattle.re_spans.specs.declared.reach.Times.{Times}
use Rattle.re_spans.specs.declared.reach.Times.TheVariants.{Once, Often}

-- a span, from its beginning to its end or the other way
abbrev pub Along : Way → (ℕ → ℕ → Type 0) → ℕ → ℕ → Type 0
Along On R i j = R i j
Along Back R i j = R j i

-- a span leads from a place of the set to j
abbrev pub Reached : Way → (ℕ → ℕ → Type 0) → Cells → ℕ → Type 0
Reached way R s j = (i : ℕ) × IsTrue (has s i) × Along way R i j

-- the set has the places, of those that it counts, that spans lead to from the other
abbrev pub AreReached : Way → (ℕ → ℕ → Type 0) → Cells → Cells → Type 0
AreReached way R s out = (j : ℕ) → s.low ≤ j → j < past s → IsTrue (has out j) ↔ Reached way R s j

-- one span, or any number
abbrev pub so_many : Times → (ℕ → ℕ → Type 0) → ℕ → ℕ → Type 0
so_many Once R = R
so_many Often R = Repeats R

-- a search comes to a place from which it begins or not, where the tree has this mark: it enters the tree there
abbrev pub enters : Times → Bool → Mark → Bool
enters Once begun k = begun
enters Often begun k = begun || k.led

-- it has reached the place, at which it enters the tree or not
abbrev pub leaves : Times → Mark → Bool → Bool
leaves Once k entered = passes k entered
leaves Often k entered = entered
