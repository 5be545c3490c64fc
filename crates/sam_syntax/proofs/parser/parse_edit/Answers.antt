use Rattle.std.proofs.Common.{◌≡◌, ℕ, length, subst, sym, arith}
use Rattle.std.proofs.lemmas.Result.{IfOk-weaker, IfErr-weaker}
use Rattle.edit_parts.specs.Tree.{Command}
use Rattle.sam_syntax.specs.Answer.{Reaches, IsInLimits}
use Rattle.sam_syntax.specs.Read.{FinishFails}
use Rattle.sam_syntax.proofs.Places.{finish_reads, finish_refuses}
use Rattle.sam_syntax.proofs.parser.parse_edit.Goals as goal

pub returns-clause-read : goal.returns-clause-read
returns-clause-read c =
    let i = c.loop-at.invariant in
    let e : c.loop-at.at ≡ length c.args.text.now = omega (arith, c.loop-at-test.false, i.1.within) in
    let all : Reaches c.args.text.now (length c.args.text.now) i.0 = subst (λ (k : ℕ). Reaches c.args.text.now k i.0) e
    i.1 in
    IfOk-weaker c.finish.result _ _ (λ a f. finish_reads c.args.text.now i.0 all a (f i.0 i.2).0 (f i.0 i.2).1)
    c.finish.ensures.ok

pub returns-clause-small : goal.returns-clause-small
returns-clause-small c =
    let i = c.loop-at.invariant in
    IfOk-weaker c.finish.result _ _ (λ a f. subst (λ (t : Command). IsInLimits t) (sym (f i.0 i.2).1) (f i.0 i.2).2)
    c.finish.ensures.ok

pub returns-clause-refused : goal.returns-clause-refused
returns-clause-refused c =
    let i = c.loop-at.invariant in
    let e : c.loop-at.at ≡ length c.args.text.now = omega (arith, c.loop-at-test.false, i.1.within) in
    let all : Reaches c.args.text.now (length c.args.text.now) i.0 = subst (λ (k : ℕ). Reaches c.args.text.now k i.0) e
    i.1 in
    IfErr-weaker c.finish.result _ _ (λ fault f. finish_refuses c.args.text.now i.0 all fault
    (subst (λ (k : ℕ). FinishFails k i.0 fault) e (f i.0 i.2))) c.finish.ensures.err
