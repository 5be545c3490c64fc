use Rattle.std.proofs.Common.{refl, rules}
use Rattle.re_syntax.proofs.Steps.{read_is}
use Rattle.re_syntax.proofs.parser.read.Goals as goal

pub returns-in-None-clause-some : goal.returns-in-None-clause-some
returns-in-None-clause-some c = λ m f. (
  record m { scanner = c.in-Some.scanner },
  read_is m c.args.parser.scanner c.in-Some.scanner c.args.c
      c.in_ok-scanner.field-0 c.in-Some.token _ f.scanner c.in_ok-scanner.ensures c.in-Some.is c.in-None.is,
  search rules,
)

pub returns-in_ok-take-in-Some-token-clause-some : goal.returns-in_ok-take-in-Some-token-clause-some
returns-in_ok-take-in-Some-token-clause-some c = λ m f. (
  _,
  read_is m c.args.parser.scanner c.in-Some.scanner c.args.c c.in_ok-scanner.field-0 c.in-Some.token _ f.scanner
      c.in_ok-scanner.ensures c.in-Some.is c.in-Some-token.is,
  c.in_ok-take-in-Some-token.ensures
      (record m { scanner = c.in-Some.scanner }) (record {
        scanner = refl;
        few = f.few;
        small = f.small;
        large =
            f.large;
      }),
)
