use Rattle.re_machine.proofs.Words64.{meets_is}
use Rattle.re_machine.proofs.set.meets.Goals as goal

pub returns-clause-is : goal.returns-clause-is
returns-clause-is g c = meets_is g.S.LetterSet.SIZE (g.S.LetterSet.bits c.args.x) (g.S.LetterSet.bits c.args.y)
    (g.S.LetterSet.bits c.both.result) c.is_none.result c.both.ensures c.is_none.ensures.is c.is_none.ensures.some
