use Rattle.std.proofs.Common.{◌≡◌, ◌*◌, ◌^◌, ◌%◌, ◌<◌, zero, suc, ℕ, List, [], ◌∷◌, refl, arith}
use Rattle.std.specs.Prelude.{slice_index, replicate}
use Rattle.re_machine.proofs.SeveralWords.{one_value, power_fits, no_words}
use Rattle.re_machine.proofs.wide.WideLetterSet.one.Goals as goal

pub returns : goal.returns
returns c = one_value (replicate 16 0) c.args.n (1 * 2 ^ (c.args.n % 64) % 18446744073709551616) refl c.requires
    (no_words 16) (power_fits (c.args.n % 64) (omega arith))
