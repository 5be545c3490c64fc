use Rattle.std.specs.Prelude.{◌≡◌, ◌≤◌, ℕ, Option}
use Rattle.std.specs.Option.{is_none}
use Rattle.am_text.specs.declared.range.Range.{Range}
use Rattle.re_syntax.specs.Tree.{Tree}
use Rattle.re_sets.specs.Tables.{IsTable}
use Rattle.re_sets.specs.Searches.{Known}
use Rattle.re_machine.specs.Ways.{reading}
use Rattle.re_machine.specs.Whole.{table_of}
use Rattle.re_machine.specs.Threads.{one_row}
use Rattle.re_machine.proofs.alone.stay_alone.Given as goal

abbrev pub invariant-loop-at : goal.invariant-loop-at
invariant-loop-at g l =
    let w = reading l.way (g.T.Letters.letters l.text) in
    let bits = g.S.LetterSet.bits in
    (r : Tree) (no_null : Option ℕ) (low start : ℕ) (best : Option Range)
    → IsTable r (table_of bits g.S.LetterSet.SIZE l.tables) → low ≤ l.range.q0 → l.is_idle ≡ is_none best
    → Known r w no_null low l.range.q0 (one_row start (bits l.fn.lone.set)) best
    → Known r w no_null low l.at (one_row start (bits l.set)) best
