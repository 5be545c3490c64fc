use Rattle.re_machine.proofs.SeveralWords.{and_value}
use Rattle.re_machine.proofs.wide.WideLetterSet.both.Goals as goal

pub returns : goal.returns
returns c = and_value c.args.self.words c.args.other.words c.and_words.result c.and_words.ensures.x_len
    c.and_words.ensures.y_len c.and_words.ensures.len c.and_words.ensures.each
