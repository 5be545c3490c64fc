use Rattle.std.proofs.Common.{◌≡◌, ◌<◌, ◌^◌, List, [], ℕ, true, refl, sym, subst, arith, rules}
use Rattle.std.specs.Prelude.{codes}
use Rattle.std.specs.Str.{is_utf8, chars}
use Rattle.std.specs.Char.{encode_utf8}
use Rattle.ninep_types.specs.declared.message.TBody.TheVariants as t
use Rattle.ninep_types.specs.Fields.{is_text}
use Rattle.ninep_types.specs.Spelling.{IsString}
use Rattle.ninep_client.specs.Asking.{MaySend}
use Rattle.ninep_client.proofs.version.version_message.Goals as goal

version_text : is_text (codes "9P2000") ≡ true
unfolding is_text is_utf8 chars encode_utf8
version_text = refl

version_may : (msize : ℕ) → MaySend [] (t.Version msize (codes "9P2000"))
version_may msize = record {
  fits = record { text = version_text; len = omega arith };
  size = omega arith;
  no_flush = λ e. absurd (omega (arith, e));
  alone = λ e. refl;
}

pub returns-clause-may : goal.returns-clause-may
returns-clause-may c =
    let is : c.in_ok-version.version ≡ codes "9P2000" = search rules in
    subst (λ (v : List ℕ). MaySend [] (t.Version c.args.msize v)) (sym is) (version_may c.args.msize)
