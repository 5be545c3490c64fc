use Rattle.std.proofs.Common.{rules, sym, ◌∙◌, ◌<◌, arith}
use Rattle.am_serve.proofs.Passing.{looks_same, looks_on, looks_further, have_ended_more}
use Rattle.am_serve.proofs.scripting.have_ended.Goals as goal

pub loop-conn-init : goal.loop-conn-init
loop-conn-init g c = record {
  fits = c.requires.fits;
  looks = looks_same (g.C.Counter.known c.args.seat.now);
  ended = λ k lt. absurd (omega (arith, lt));
}

pub loop-conn-preserved : goal.loop-conn-preserved
loop-conn-preserved g c = record {
  fits = c.look.ensures.fits;
  looks = looks_on _ _ _ c.loop-conn.invariant.looks c.look.ensures.seen;
  ended =
      let below : c.loop-conn.conn < 64 = omega (arith, c.loop-conn-test.true, c.requires.clients) in
      have_ended_more c.loop-conn.conn _ _ (looks_further _ _ c.look.ensures.seen) c.loop-conn.invariant.ended
      (sym (g.met.C.Counter.connections.ended _ c.loop-conn.conn c.look.ensures.played below)
      ∙ sym c.look.ensures.answer ∙ search rules);
}

pub returns-then-not-look-clause-goes_on : goal.returns-then-not-look-clause-goes_on
returns-then-not-look-clause-goes_on g c =
    let below : c.loop-conn.conn < 64 = omega (arith, c.loop-conn-test.true, c.requires.clients) in
    λ _. (
      c.loop-conn.conn,
      c.loop-conn-test.true,
      sym (g.met.C.Counter.connections.ended _ c.loop-conn.conn c.look.ensures.played below) ∙ sym c.look.ensures.answer
          ∙ search rules,
    )
