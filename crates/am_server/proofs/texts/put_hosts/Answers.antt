use Rattle.std.proofs.lemmas.Result.{err_from_is_err_and}
use Rattle.std.proofs.Common.{arith, drop, length, take, ◌+◌}
use Rattle.am_server.specs.Texts.{host_text}
use Rattle.am_server.proofs.Putting.{host_one, hosts_more, hosts_split, stops_more, whole_more}
use Rattle.am_server.proofs.texts.put_hosts.Goals as goal

pub loop-slot-preserved : goal.loop-slot-preserved
loop-slot-preserved g c =
    let slots = c.args.slots.now in
    let k = c.loop-slot.slot-index in
    let s = c.slot-item.result in
    let before = c.loop-slot.invariant in
    record {
      number = omega (arith, before.number);
      put = whole_more (g.O.Sink.told c.args.output.now) (g.O.Sink.told c.loop-slot.output)
          (g.O.Sink.told c.put_slot.new.output)
          (host_text 0 (take k slots)) (host_one c.loop-slot.number s) (host_text 0 (take (k + 1) slots))
          (hosts_more slots k c.loop-slot.number s before.number c.loop-slot-test.true c.slot-item.is) before.put
          c.in_ok-put_slot.ensures.ok;
      later = omega (arith, before.later, c.put_slot.ensures.later);
    }

pub returns-in_err-put_slot-clause-err : goal.returns-in_err-put_slot-clause-err
returns-in_err-put_slot-clause-err g c =
    let p = err_from_is_err_and c.from_residual.result c.from_residual.ensures.1 in
    let slots = c.args.slots.now in
    let k = c.loop-slot.slot-index in
    let s = c.slot-item.result in
    let before = c.loop-slot.invariant in
    rw (p.1, p.2)
    (stops_more c.in_err-put_slot.field-0.0 (g.O.Sink.told c.args.output.now) (g.O.Sink.told c.loop-slot.output)
    (g.O.Sink.told c.put_slot.new.output)
    (λ n. host_text 0 (take n slots)) k (host_one c.loop-slot.number s)
    (host_text (0 + length (take (k + 1) slots)) (drop (k + 1) slots)) (host_text 0 slots)
    (hosts_more slots k c.loop-slot.number s before.number c.loop-slot-test.true c.slot-item.is)
    (hosts_split slots (k + 1))
    before.put before.later c.in_err-put_slot.ensures.err)
