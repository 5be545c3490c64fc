use Rattle.std.specs.Prelude.{◌≡◌, ◌<◌, ℕ, length, slice_index}
use Rattle.std.specs.Prelude.{bit_or}
use Rattle.re_machine.proofs.wide.or_words.Given as goal

abbrev pub invariant-loop-k : goal.invariant-loop-k
invariant-loop-k l = record {
  len : length l.all ≡ 16;
  each : (m : ℕ) → m < l.k → slice_index l.all m ≡ bit_or (slice_index l.x m) (slice_index l.y m);
}
