use Rattle.am_serve.proofs.Passing.{looks_same}
use Rattle.am_serve.proofs.sending.wait_for_room.Goals as goal

pub loop-init : goal.loop-init
loop-init g c = record { fits = c.requires.fits; looks = looks_same (g.C.Counter.known c.args.seat.now) }
