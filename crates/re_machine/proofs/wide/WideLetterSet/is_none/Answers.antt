use Rattle.re_machine.proofs.SeveralWords.{none_is}
use Rattle.re_machine.proofs.wide.WideLetterSet.is_none.Goals as goal

pub returns-clause-is : goal.returns-clause-is
returns-clause-is c = (none_is c.args.self.words c.first_word.result c.is_none.result c.first_word.ensures.len
    c.first_word.ensures.some c.first_word.ensures.none c.is_none.ensures).0

pub returns-clause-some : goal.returns-clause-some
returns-clause-some c = (none_is c.args.self.words c.first_word.result c.is_none.result c.first_word.ensures.len
    c.first_word.ensures.some c.first_word.ensures.none c.is_none.ensures).1
