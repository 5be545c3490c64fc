use Rattle.std.specs.Prelude.{◌≡◌, take}
use Rattle.rune_gap.proofs.marks.plain_bytes.Given as goal

abbrev pub invariant-loop-rune : goal.invariant-loop-rune
invariant-loop-rune l = l.bytes ≡ take l.rune-index l.text
