use Rattle.re_machine.specs.Ways.{reading}
use Rattle.re_machine.specs.Whole.{table_of}
use Rattle.re_machine.specs.Threads.{rows_of}
use Rattle.re_machine.proofs.Stepping.{skip_known}
use Rattle.re_machine.proofs.search.skip.Goals as goal

pub returns-then-not-is_ever_null-clause-known : goal.returns-then-not-is_ever_null-clause-known
returns-then-not-is_ever_null-clause-known g c = λ r is known.
    let bits = g.S.LetterSet.bits in
    skip_known r (table_of bits g.S.LetterSet.SIZE c.args.tables.now)
    (reading c.args.cursor.way (g.T.Letters.letters c.args.text.now)) c.args.bounds.no_null c.args.bounds.low is
    c.args.cursor.at c.next_begin.result (rows_of bits c.args.threads.now.rows.items) c.args.threads.now.best
    c.requires.low c.next_begin.ensures.above (c.is_idle.ensures.rows c.if-is_idle.true)
    (c.is_idle.ensures.best c.if-is_idle.true) (c.is_ever_null.ensures c.if-not-is_ever_null.true)
    c.next_begin.ensures.over known
