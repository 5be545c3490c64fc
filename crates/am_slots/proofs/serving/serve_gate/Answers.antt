use Rattle.am_slots.proofs.Connected.{undialled}
use Rattle.am_slots.proofs.serving.serve_gate.Goals as goal

pub returns-in-Err-clause-has : goal.returns-in-Err-clause-has
returns-in-Err-clause-has g c =
    undialled g.C.Counter.enabled 2 c.args.at.now.conn (g.C.Counter.known c.args.seat.now)
    (g.C.Counter.known c.submit.new.seat) _ c.requires.fresh c.in-Err.ensures.err c.in-Err.ensures.refused
