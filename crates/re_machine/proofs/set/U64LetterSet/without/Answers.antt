use Rattle.std.proofs.Common.{rules}
use Rattle.re_machine.proofs.Words64.{without_is}
use Rattle.re_machine.proofs.set.U64LetterSet.without.Goals as goal

pub returns : goal.returns
returns c = without_is c.args.self c.args.n (search rules) c.requires.inside c.requires.has
