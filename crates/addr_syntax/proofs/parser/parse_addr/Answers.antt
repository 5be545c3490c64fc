use Rattle.std.proofs.Common.{◌≡◌, ℕ, length, subst, arith}
use Rattle.std.proofs.lemmas.Result.{IfOk-weaker, IfErr-weaker, err_from_is_err_and}
use Rattle.addr_syntax.specs.Answer.{Reaches}
use Rattle.addr_syntax.specs.Read.{FinishFails}
use Rattle.addr_syntax.proofs.Places.{finish_reads, finish_refuses, step_reaches, step_refuses}
use Rattle.addr_syntax.proofs.parser.parse_addr.Goals as goal

pub returns-clause-read : goal.returns-clause-read
returns-clause-read c =
    let i = c.loop-at.invariant in
    let e : c.loop-at.at ≡ length c.args.text.now = omega (arith, c.loop-at-test.false, i.1.within) in
    let all : Reaches c.args.text.now (length c.args.text.now) i.0 = subst (λ (k : ℕ). Reaches c.args.text.now k i.0) e
    i.1 in
    IfOk-weaker c.finish.result _ _ (λ a f. finish_reads c.args.text.now i.0 all a (f i.0 i.2).0) c.finish.ensures.ok

pub returns-clause-refused : goal.returns-clause-refused
returns-clause-refused c =
    let i = c.loop-at.invariant in
    let e : c.loop-at.at ≡ length c.args.text.now = omega (arith, c.loop-at-test.false, i.1.within) in
    let all : Reaches c.args.text.now (length c.args.text.now) i.0 = subst (λ (k : ℕ). Reaches c.args.text.now k i.0) e
    i.1 in
    IfErr-weaker c.finish.result _ _ (λ fault f. finish_refuses c.args.text.now i.0 all fault
    (subst (λ (k : ℕ). FinishFails k i.0 fault) e (f i.0 i.2))) c.finish.ensures.err

pub loop-at-preserved : goal.loop-at-preserved
loop-at-preserved c =
    let i = c.loop-at.invariant in
    let on = c.in_ok-next.ensures.ok i.0 i.2 in
    (on.1, step_reaches c.args.text.now c.loop-at.at c.in_ok-next.end i.0 on.1 on.0 i.1 on.2 on.3, on.4)

pub returns-in_err-next-clause-refused : goal.returns-in_err-next-clause-refused
returns-in_err-next-clause-refused c =
    let i = c.loop-at.invariant in
    let p = err_from_is_err_and c.from_residual.result c.from_residual.ensures.1 in
    rw (p.1, p.2) (step_refuses c.args.text.now c.loop-at.at i.0 i.1 c.loop-at-test.true c.in_err-next.field-0.0
    (c.in_err-next.ensures.err i.0 i.2))
