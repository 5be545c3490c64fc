use Rattle.std.specs.Prelude.{ℕ, Option}
use Rattle.re_syntax.specs.Tree.{Tree}
use Rattle.re_sets.specs.Tables.{IsTable}
use Rattle.re_sets.specs.Searches.{Followed}
use Rattle.re_machine.specs.Ways.{reading}
use Rattle.re_machine.specs.Whole.{table_of}
use Rattle.re_machine.proofs.alone.follow_alone.Given as goal

abbrev pub invariant-loop-at : goal.invariant-loop-at
invariant-loop-at g l =
    let w = reading l.way (g.T.Letters.letters l.text) in
    let bits = g.S.LetterSet.bits in
    (r : Tree) (no_null : Option ℕ) (low start : ℕ) → IsTable r (table_of bits g.S.LetterSet.SIZE l.tables)
    → Followed r w no_null low l.range.q0 start (bits l.fn.first) → Followed r w no_null low l.at start (bits l.set)
