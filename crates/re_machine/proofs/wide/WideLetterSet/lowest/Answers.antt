use Rattle.std.proofs.Common.{sym, arith}
use Rattle.re_machine.proofs.SeveralWords.{word_has, zero_value}
use Rattle.re_machine.proofs.wide.WideLetterSet.lowest.Goals as goal

pub returns-in-Some-clause-some : goal.returns-in-Some-clause-some
returns-in-Some-clause-some c = rw c.word_at-word.ensures.word (word_has c.args.self.words c.in-Some.k
    c.in-Some.ensures.some.0 c.in-Some.ensures.some.1 c.in-Some.ensures.some.2)

pub returns-in-None-clause-none : goal.returns-in-None-clause-none
returns-in-None-clause-none c = zero_value c.args.self.words (λ k l. c.in-None.ensures.none k
    (omega (arith, l, c.first_word.ensures.len)))
