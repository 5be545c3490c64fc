use Rattle.std.proofs.Common.{rules, arith, w64}
use Rattle.std.specs.Int.{trailing_zeros}
use Rattle.std.proofs.lemmas.Nat.Bits.{bit_at-trailing_zeros}
use Rattle.re_sets.proofs.Wording.{on_is}
use Rattle.re_machine.proofs.set.U64LetterSet.lowest.Goals as goal

pub returns-else-self-eq0-clause-some : goal.returns-else-self-eq0-clause-some
returns-else-self-eq0-clause-some c =
    let k = bit_at-trailing_zeros w64 c.args.self (omega arith) (search rules) in
    (k.0, (on_is c.args.self (trailing_zeros w64 c.args.self)).1 k.1)
