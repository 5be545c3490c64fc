use Rattle.std.specs.Prelude.{◌≡◌, ◌<◌, ℕ, slice_index}
use Rattle.re_machine.proofs.wide.first_word.Given as goal

abbrev pub invariant-loop-k : goal.invariant-loop-k
invariant-loop-k l = (m : ℕ) → m < l.k → slice_index l.words m ≡ 0
