use Rattle.re_machine.proofs.Adding.{set_more}
use Rattle.re_machine.proofs.fill.put_row.Goals as goal

pub returns-then-n-rows-clause-row : goal.returns-then-n-rows-clause-row
returns-then-n-rows-clause-row g c = λ l. set_more g.S.LetterSet.bits c.args.rows.now c.args.n c.index-rows-n.result
    c.union.result (g.S.LetterSet.bits c.args.to) l c.index-rows-n.is c.union.ensures
