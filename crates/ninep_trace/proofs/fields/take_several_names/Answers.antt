use Rattle.std.proofs.lemmas.Result.{err_from_is_err_and}
use Rattle.ninep_trace.specs.Fields.{quoted_at, several_at}
use Rattle.ninep_trace.proofs.Loops.{goes_on, no_blank, ends, is_done}
use Rattle.ninep_trace.proofs.fields.take_several_names.Goals as goal

pub returns-in_err-behind : goal.returns-in_err-behind
returns-in_err-behind c =
    let p = err_from_is_err_and c.from_residual.result c.from_residual.ensures.1 in
    rw (p.1, p.2) (no_blank quoted_at c.in_err-behind.field-0.0 c.loop.names c.args.count c.loop.counter c.loop.rest.now
    (several_at quoted_at c.args.count c.args.bytes.now) c.loop-test.true c.in_err-behind.ensures c.loop.invariant)

pub returns-in_err-name : goal.returns-in_err-name
returns-in_err-name c =
    let p = err_from_is_err_and c.from_residual-in_err-name.result c.from_residual-in_err-name.ensures.1 in
    rw (p.1, p.2) (ends quoted_at c.in_err-name.field-0.0 c.loop.names c.args.count c.loop.counter c.loop.rest.now
    c.in_ok-behind.behind.now (several_at quoted_at c.args.count c.args.bytes.now) c.loop-test.true
    c.in_ok-behind.ensures c.in_err-name.ensures c.loop.invariant)

pub loop-preserved : goal.loop-preserved
loop-preserved c =
    rw c.in_ok-push.ensures.ok (goes_on quoted_at c.loop.names c.args.count c.loop.counter c.loop.rest.now
    c.in_ok-behind.behind.now c.in_ok-name.name c.in_ok-name.after.now
    (several_at quoted_at c.args.count c.args.bytes.now) c.loop-test.true c.in_ok-behind.ensures
    c.in_ok-name.ensures c.loop.invariant)

pub returns : goal.returns
returns c = is_done quoted_at c.loop.names c.args.count c.loop.counter c.loop.rest.now
    (several_at quoted_at c.args.count c.args.bytes.now) c.loop-test.false c.loop.invariant
