use Rattle.am_serve.proofs.Passing.{looks_same, looks_then_sends}
use Rattle.am_serve.proofs.sending.send_message.Goals as goal

pub loop-init : goal.loop-init
loop-init g c = record { fits = c.requires.fits; looks = looks_same (g.C.Counter.known c.args.seat.now) }

pub returns-in-Done-clause-ok : goal.returns-in-Done-clause-ok
returns-in-Done-clause-ok g c =
    looks_then_sends g.C.Counter.enabled c.args.at.now.conn (g.C.Counter.known c.args.seat.now)
    (g.C.Counter.known c.loop.seat) (g.C.Counter.known c.try_message.new.seat) c.args.message.now
    c.loop.invariant.looks c.in-Done.ensures.tries
