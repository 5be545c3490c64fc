use Rattle.std.proofs.Common.{◌≡◌, ◌<◌, ◌≤◌, ℕ, true, false}
use Rattle.std.specs.Prelude.{slice_index_or}
use Rattle.re_spans.proofs.places.put_from.Given as goal

abbrev pub invariant-loop-k : goal.invariant-loop-k
invariant-loop-k l = record {
  before : (m : ℕ) → m < l.first → slice_index_or l.tests m false ≡ slice_index_or l.initial.tests m false;
  done : (m : ℕ) → l.first ≤ m → m < l.k → slice_index_or l.tests m false ≡ true;
}
