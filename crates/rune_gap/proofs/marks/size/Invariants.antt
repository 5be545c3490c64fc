use Rattle.std.specs.Prelude.{◌≡◌, ◌≤◌, ◌*◌, take}
use Rattle.rune_gap.specs.Marks.{size}
use Rattle.rune_gap.proofs.marks.size.Given as goal

abbrev pub invariant-loop-rune : goal.invariant-loop-rune
invariant-loop-rune l = record {
  exact : l.size ≡ size (take l.rune-index l.part);
  small : l.size ≤ 4 * l.rune-index;
}
