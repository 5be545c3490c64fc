use Rattle.std.proofs.lemmas.Result.{err_from_is_err_and}
use Rattle.addr_syntax.proofs.Tokens.{backward_token, backward_faults}
use Rattle.addr_syntax.proofs.token.backward.Goals as goal

pub returns-clause-ok : goal.returns-clause-ok
returns-clause-ok c =
    rw (c.backward_of.ensures, c.behind.ensures) (backward_token c.args.text.now c.args.at c.in_ok-re.end
    c.requires.query c.in_ok-re.re c.in_ok-re.ensures.ok)

pub returns-in_err-re-clause-err : goal.returns-in_err-re-clause-err
returns-in_err-re-clause-err c =
    let p = err_from_is_err_and c.from_residual.result c.from_residual.ensures.1 in
    rw (p.1, p.2) (backward_faults c.args.text.now c.args.at c.requires.query c.in_err-re.field-0.0
    c.in_err-re.ensures.err)
