use Rattle.std.specs.Prelude.{◌≡◌, ◌++◌, List, drop, bit_or}
use Rattle.re_sets.specs.Rows.{Row, solid, parted, move_rows}
use Rattle.re_sets.specs.Tables.{take_away}
use Rattle.re_machine.specs.Threads.{rows_of, move_by}
use Rattle.re_machine.proofs.rows.advance.Given as goal

abbrev pub invariant-loop-row : goal.invariant-loop-row
invariant-loop-row g l =
    (more : List Row) → rows_of g.S.LetterSet.bits l.next.items ++
    solid (parted take_away bit_or (move_rows (move_by g.S.LetterSet.bits g.S.LetterSet.SIZE l.context
    (g.S.LetterSet.bits l.takes)) (rows_of g.S.LetterSet.bits (drop l.row-index l.rows)) ++ more)
    (g.S.LetterSet.bits l.seen)) ≡ solid (parted take_away bit_or
    (move_rows (move_by g.S.LetterSet.bits g.S.LetterSet.SIZE l.context (g.S.LetterSet.bits l.takes))
    (rows_of g.S.LetterSet.bits l.rows) ++ more) 0)
