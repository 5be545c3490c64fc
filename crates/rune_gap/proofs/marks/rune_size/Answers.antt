use Rattle.std.proofs.Common.{◌≡◌, true, false, cond, length, encode_utf8, refl}
use lib.Utf8.{scalar}
use Rattle.rune_gap.proofs.marks.rune_size.Goals as goal

pub returns-in-None-clause-exact : goal.returns-in-None-clause-exact
unfolding lib.Utf8.encode
returns-in-None-clause-exact c =
    elim (scalar c.args.rune) as (λ b. scalar c.args.rune ≡ b → 3 ≡
    length (cond b (encode_utf8 c.args.rune) (encode_utf8 0xFFFD))) [
      | true ↦ λ e. absurd (c.in-None.ensures.value e)
      | false ↦ λ e. refl
    ] refl
