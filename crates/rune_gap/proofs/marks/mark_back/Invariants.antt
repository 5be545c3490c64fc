use Rattle.std.specs.Prelude.{◌≡◌, ◌≤◌, ◌-◌, ◌*◌, ℕ, length, drop}
use Rattle.rune_gap.specs.Marks.{stride, size, noted}
use Rattle.rune_gap.proofs.marks.mark_back.Given as goal

abbrev pub invariant-loop-k : goal.invariant-loop-k
invariant-loop-k l = record {
  len : length l.marks ≡ length l.initial.marks;
  marked : (m : ℕ) → m ≤ l.k → m * stride ≤ length l.text → noted l.marks
      m ≡ size (drop (length l.text - m * stride) l.text);
}
