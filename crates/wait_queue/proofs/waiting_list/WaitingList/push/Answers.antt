use Rattle.wait_queue.proofs.HeldLemmas.{AreHeld-inserted, view-insert}
use Rattle.wait_queue.proofs.waiting_list.WaitingList.push.Goals as goal

pub invariant_of-self-in_err-key : goal.invariant_of-self-in_err-key
invariant_of-self-in_err-key c = rw (c.in_err-key.ensures.err, c.reserve.ensures.items) c.self.invariant

pub invariant_of-self-2 : goal.invariant_of-self-2
invariant_of-self-2 c =
    AreHeld-inserted c.self.inside.held c.insert.new.self c.self.inside.order.items _ c.in_ok-key.key c.args.asker (cc)
    c.in_ok-key.ensures.was_vacant c.in_ok-key.ensures.updates c.self.invariant

pub returns-clause-ok : goal.returns-clause-ok
returns-clause-ok c =
    rw (← c.self.view_is)
    (view-insert c.self.inside.held c.insert.new.self c.self.inside.order.items _ c.in_ok-key.key c.args.asker (cc)
    c.in_ok-key.ensures.was_vacant c.in_ok-key.ensures.updates c.self.invariant)
