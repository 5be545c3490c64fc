use Rattle.std.proofs.Common.{rules, arith}
use Rattle.std.proofs.lemmas.Bool.Decides.{nat_tests}
use Rattle.re_machine.proofs.Words64.{has_one}
use Rattle.re_machine.proofs.set.U64LetterSet.is_none.Goals as goal

pub returns-clause-some : goal.returns-clause-some
returns-clause-some c = λ e. has_one c.args.self (search rules) (λ z. grind (arith, nat_tests, e, z))
