use Rattle.re_machine.proofs.SeveralWords.{minus_value}
use Rattle.re_machine.proofs.wide.WideLetterSet.minus.Goals as goal

pub returns : goal.returns
returns c = minus_value c.args.self.words c.args.other.words c.minus_words.result c.minus_words.ensures.x_len
    c.minus_words.ensures.y_len c.minus_words.ensures.len c.minus_words.ensures.each
