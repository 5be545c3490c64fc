use Rattle.re_machine.proofs.Building.{four_firsts}
use Rattle.re_machine.proofs.contexts.Contexts.firsts.Goals as goal

pub returns-in-ByPlace : goal.returns-in-ByPlace
returns-in-ByPlace g c = λ x. rw c.in-ByPlace.is (four_firsts g.S.LetterSet.bits c.in-ByPlace.inside c.in-ByPlace.starts
    c.in-ByPlace.ends c.in-ByPlace.empty (g.S.LetterSet.bits c.union-within.result)
    (g.S.LetterSet.bits c.union-outer.result) (g.S.LetterSet.bits c.union.result) x c.union-within.ensures
    c.union-outer.ensures c.union.ensures)
