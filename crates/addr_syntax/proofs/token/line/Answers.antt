use Rattle.std.proofs.Common.{refl}
use Rattle.std.proofs.lemmas.Result.{err_from_is_err_and}
use Rattle.addr_syntax.specs.Tree.{LineAt}
use Rattle.addr_syntax.specs.Pieces.{Part}
use Rattle.addr_syntax.proofs.Tokens.{line_at, line_faults}
use Rattle.addr_syntax.proofs.token.line.Goals as goal

pub returns-clause-ok : goal.returns-clause-ok
returns-clause-ok c = (
  Part (LineAt c.in_ok-n.n),
  (LineAt c.in_ok-n.n, refl, (refl, refl, refl), refl),
  line_at c.args.text.now c.args.at c.in_ok-n.n c.in_ok-n.end c.requires.digit c.in_ok-n.ensures.ok,
)

pub returns-in_err-n-clause-err : goal.returns-in_err-n-clause-err
returns-in_err-n-clause-err c =
    let p = err_from_is_err_and c.from_residual.result c.from_residual.ensures.1 in
    rw (p.1, p.2) (line_faults c.args.text.now c.args.at c.requires.within c.requires.digit c.in_err-n.field-0.0
    c.in_err-n.ensures.err)
