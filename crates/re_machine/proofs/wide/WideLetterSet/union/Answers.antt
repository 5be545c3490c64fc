use Rattle.re_machine.proofs.SeveralWords.{or_value}
use Rattle.re_machine.proofs.wide.WideLetterSet.union.Goals as goal

pub returns : goal.returns
returns c = or_value c.args.self.words c.args.other.words c.or_words.result c.or_words.ensures.x_len
    c.or_words.ensures.y_len c.or_words.ensures.len c.or_words.ensures.each
