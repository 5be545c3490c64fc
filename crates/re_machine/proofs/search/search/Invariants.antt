use Rattle.std.specs.Prelude.{◌≤◌, ◌-◌}
use Rattle.re_syntax.specs.Tree.{Tree}
use Rattle.re_sets.specs.Tables.{IsTable}
use Rattle.re_sets.specs.Searches.{Known}
use Rattle.re_machine.specs.Ways.{reading}
use Rattle.re_machine.specs.Whole.{table_of}
use Rattle.re_machine.specs.Threads.{rows_of}
use Rattle.re_machine.proofs.search.search.Given as goal

abbrev pub invariant-places : goal.invariant-places
invariant-places g l = record {
  low : l.bounds.low ≤ l.from;
  high : l.from ≤ l.bounds.high;
  known : (r : Tree) → IsTable r (table_of g.S.LetterSet.bits g.S.LetterSet.SIZE l.tables)
      → Known r (reading l.way (g.T.Letters.letters l.text)) l.bounds.no_null l.bounds.low l.from
      (rows_of g.S.LetterSet.bits l.threads.rows.items) l.threads.best;
}

abbrev pub decreases-places : goal.decreases-places
decreases-places g l = l.bounds.high - l.from
