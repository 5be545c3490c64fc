use Rattle.std.proofs.lemmas.Result.{err_from_is_err_and}
use Rattle.ninep_types.specs.Fields.{qid_at, several_at}
use Rattle.ninep_wire.proofs.Loops.{goes_on, ends, is_done}
use Rattle.ninep_wire.proofs.fields.take_several_qids.Goals as goal

pub returns-in_err-qid : goal.returns-in_err-qid
returns-in_err-qid c =
    let p = err_from_is_err_and c.from_residual.result c.from_residual.ensures.1 in
    rw (p.1, p.2) (ends qid_at c.in_err-qid.field-0.0 c.loop.qids c.args.count c.loop.counter c.loop.rest.now
    (several_at qid_at c.args.count c.args.bytes.now) c.loop-test.true c.in_err-qid.ensures c.loop.invariant)

pub loop-preserved : goal.loop-preserved
loop-preserved c =
    rw c.in_ok-push.ensures.ok (goes_on qid_at c.loop.qids c.args.count c.loop.counter c.loop.rest.now c.in_ok-qid.qid
    c.in_ok-qid.after.now (several_at qid_at c.args.count c.args.bytes.now) c.loop-test.true c.in_ok-qid.ensures
    c.loop.invariant)

pub returns : goal.returns
returns c = is_done qid_at c.loop.qids c.args.count c.loop.counter c.loop.rest.now
    (several_at qid_at c.args.count c.args.bytes.now) c.loop-test.false c.loop.invariant
