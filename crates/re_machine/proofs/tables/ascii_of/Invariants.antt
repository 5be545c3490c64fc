use Rattle.std.specs.Prelude.{◌≡◌, ◌<◌, ℕ, length, map, slice_index}
use Rattle.re_syntax.specs.Tree.{tree}
use Rattle.re_machine.specs.Leaves.{taken_word}
use Rattle.re_machine.proofs.tables.ascii_of.Given as goal

abbrev pub invariant-loop-rune : goal.invariant-loop-rune
invariant-loop-rune g l = record {
  count : length l.all.items ≡ l.rune;
  sets : (d : ℕ) → d < l.rune → slice_index (map g.S.LetterSet.bits l.all.items) d ≡ taken_word (map tree l.leaves) d;
}
