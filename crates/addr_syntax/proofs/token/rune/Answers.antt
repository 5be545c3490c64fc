use Rattle.std.proofs.Common.{refl}
use Rattle.std.proofs.lemmas.Result.{err_from_is_err_and}
use Rattle.addr_syntax.specs.Tree.{RuneAt}
use Rattle.addr_syntax.specs.Pieces.{Part}
use Rattle.addr_syntax.proofs.Tokens.{rune_at, rune_faults}
use Rattle.addr_syntax.proofs.token.rune.Goals as goal

pub returns-clause-ok : goal.returns-clause-ok
returns-clause-ok c = (
  Part (RuneAt c.in_ok-n.n),
  (RuneAt c.in_ok-n.n, refl, (refl, refl, refl), refl),
  rune_at c.args.text.now c.args.at c.in_ok-n.n c.in_ok-n.end c.requires.hash c.in_ok-n.ensures.ok,
)

pub returns-in_err-n-clause-err : goal.returns-in_err-n-clause-err
returns-in_err-n-clause-err c =
    let p = err_from_is_err_and c.from_residual.result c.from_residual.ensures.1 in
    rw (p.1, p.2) (rune_faults c.args.text.now c.args.at c.requires.within c.requires.hash c.in_err-n.field-0.0
    c.in_err-n.ensures.err)
