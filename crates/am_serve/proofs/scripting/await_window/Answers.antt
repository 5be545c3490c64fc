use Rattle.am_serve.proofs.Passing.{looks_same, looks_further, have_ended_kept}
use Rattle.am_serve.proofs.scripting.await_window.Goals as goal

pub loop-init : goal.loop-init
loop-init g c = record {
  fits = c.requires.fits;
  looks = looks_same (g.C.Counter.known c.args.seat.now);
}

pub returns-then-alone-clause-ended : goal.returns-then-alone-clause-ended
returns-then-alone-clause-ended g c =
    λ _. have_ended_kept c.args.script.now.clients _ _ (looks_further _ _ c.look.ensures.seen)
    (c.have_ended-alone.ensures.ended c.if-alone.true)
