use Rattle.re_machine.proofs.Joining.{or_beyond}
use Rattle.re_machine.proofs.fill.with_row.Goals as goal

pub returns-else-n-rows : goal.returns-else-n-rows
returns-else-n-rows g c = or_beyond g.S.LetterSet.bits (g.S.LetterSet.bits c.args.all) c.args.rows.now c.args.n
    c.if-n-rows.false
