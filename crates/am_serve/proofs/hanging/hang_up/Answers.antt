use Rattle.std.proofs.Common.{refl}
use Rattle.am_serve.proofs.HangUps.{has_dial_kept, hang_made, hang_refused}
use Rattle.am_serve.proofs.Passing.{looks_further}
use Rattle.am_serve.proofs.hanging.hang_up.Goals as goal

pub returns-in-Ok-clause-hangs_up : goal.returns-in-Ok-clause-hangs_up
returns-in-Ok-clause-hangs_up g c =
    hang_made g.C.Counter.enabled (g.C.Counter.known c.args.seat.now) (g.C.Counter.known c.submit.new.seat)
    c.args.at.now.conn _ c.args.why
    (λ journal played. g.met.C.Counter.connections.hang journal c.args.at.now.conn c.args.why played c.requires.conn)
    c.submit.ensures.played c.in-Ok.ensures.ok

pub returns-in-Err-clause-hangs_up : goal.returns-in-Err-clause-hangs_up
returns-in-Err-clause-hangs_up g c =
    hang_refused g.C.Counter.enabled (g.C.Counter.known c.args.seat.now) (g.C.Counter.known c.submit.new.seat)
    c.args.at.now.conn c.args.why _
    (λ journal played. g.met.C.Counter.connections.hang journal c.args.at.now.conn c.args.why played c.requires.conn)
    c.submit.ensures.played
    (has_dial_kept _ _ c.args.at.now.conn (looks_further _ _ c.in-Err.ensures.err) c.requires.dialled)
    c.in-Err.ensures.err c.in-Err.ensures.refused (c.in-Err.ensures.hang refl)
