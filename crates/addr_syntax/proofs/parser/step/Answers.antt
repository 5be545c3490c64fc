use Rattle.std.proofs.Common.{refl, inr}
use Rattle.std.proofs.lemmas.Result.{err_from_is_err_and}
use Rattle.addr_syntax.proofs.Places.{piece_refuses}
use Rattle.addr_syntax.proofs.parser.step.Goals as goal

pub returns-in_err-piece-clause-err : goal.returns-in_err-piece-clause-err
returns-in_err-piece-clause-err c =
    let p = err_from_is_err_and c.from_residual.result c.from_residual.ensures.1 in
    rw (p.1, p.2) (λ r f. piece_refuses c.args.text.now c.args.at r c.in_err-piece.field-0.0 c.in_err-piece.ensures.err)

pub returns-in-Some-clause-ok : goal.returns-in-Some-clause-ok
returns-in-Some-clause-ok c = λ r f.
    let token = c.in_ok-piece.ensures.ok in
    let some = rw c.in-Some.is at c.in_ok-next.ensures.some in
    let on = some r token.0 f token.1 in
    (token.0, on.0, token.2, on.1, on.2)

pub returns-in-None-clause-err : goal.returns-in-None-clause-err
returns-in-None-clause-err c = λ r f.
    let token = c.in_ok-piece.ensures.ok in
    let none = rw c.in-None.is at c.in_ok-next.ensures.none in
    inr (refl, token.0, c.in_ok-piece.end, token.2, none r token.0 f token.1)
