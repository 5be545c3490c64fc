use Rattle.std.proofs.lemmas.Result.{err_from_is_err_and}
use Rattle.ninep_types.specs.Fields.{string_at, several_at}
use Rattle.ninep_wire.proofs.Loops.{goes_on, ends, is_done}
use Rattle.ninep_wire.proofs.fields.take_strings.Goals as goal

pub returns-in_err-name : goal.returns-in_err-name
returns-in_err-name c =
    let p = err_from_is_err_and c.from_residual.result c.from_residual.ensures.1 in
    rw (p.1, p.2) (ends string_at c.in_err-name.field-0.0 c.loop.names c.args.count c.loop.counter c.loop.rest.now
    (several_at string_at c.args.count c.args.bytes.now) c.loop-test.true c.in_err-name.ensures c.loop.invariant)

pub loop-preserved : goal.loop-preserved
loop-preserved c =
    rw c.in_ok-push.ensures.ok (goes_on string_at c.loop.names c.args.count c.loop.counter c.loop.rest.now
    c.in_ok-name.name c.in_ok-name.after.now (several_at string_at c.args.count c.args.bytes.now) c.loop-test.true
    c.in_ok-name.ensures c.loop.invariant)

pub returns : goal.returns
returns c = is_done string_at c.loop.names c.args.count c.loop.counter c.loop.rest.now
    (several_at string_at c.args.count c.args.bytes.now) c.loop-test.false c.loop.invariant
