use Rattle.std.proofs.Common.{rules, arith}
use Rattle.am_serve.proofs.Written.{wrote_nothing, wrote_look, wrote_more, wrote_front, wrote_so_far}
use Rattle.am_serve.proofs.writing.write_replies.Goals as goal

pub loop-init : goal.loop-init
loop-init g c = record {
  fits = c.requires.fits;
  wrote = wrote_nothing g.C.Counter.unsent c.args.at.now.conn (g.C.Counter.known c.args.seat.now)
      (g.K.Sink.told c.args.sink.now).bytes;
  later = omega arith;
}

pub returns-then-is_err-clause-wrote : goal.returns-then-is_err-clause-wrote
returns-then-is_err-clause-wrote g c =
    wrote_front g.C.Counter.unsent c.args.at.now.conn g.C.Counter.enabled (g.C.Counter.known c.args.seat.now)
    (g.C.Counter.known c.loop.seat) (g.C.Counter.known c.take.new.seat) c.take.new.into
    (g.K.Sink.told c.args.sink.now).bytes (g.K.Sink.told c.loop.sink).bytes (g.K.Sink.told c.write_all.new.sink).bytes
    c.loop.invariant.wrote (search rules) (search rules)

pub loop-preserved-then-not-is_over : goal.loop-preserved-then-not-is_over
loop-preserved-then-not-is_over g c = record {
  fits = c.take.ensures.fits;
  wrote =
      wrote_more g.C.Counter.unsent c.args.at.now.conn g.C.Counter.enabled (g.C.Counter.known c.args.seat.now)
      (g.C.Counter.known c.loop.seat) (g.C.Counter.known c.take.new.seat) c.take.new.into
      (g.K.Sink.told c.args.sink.now).bytes (g.K.Sink.told c.loop.sink).bytes (g.K.Sink.told c.write_all.new.sink).bytes
      c.loop.invariant.wrote (search rules) (search rules);
  later = omega (arith, c.loop.invariant.later, c.write_all.ensures.cause.later);
}

pub loop-preserved-else-not-is_over : goal.loop-preserved-else-not-is_over
loop-preserved-else-not-is_over g c = record {
  fits = c.take.ensures.fits;
  wrote =
      wrote_more g.C.Counter.unsent c.args.at.now.conn g.C.Counter.enabled (g.C.Counter.known c.args.seat.now)
      (g.C.Counter.known c.loop.seat) (g.C.Counter.known c.take.new.seat) c.take.new.into
      (g.K.Sink.told c.args.sink.now).bytes (g.K.Sink.told c.loop.sink).bytes (g.K.Sink.told c.write_all.new.sink).bytes
      c.loop.invariant.wrote (search rules) (search rules);
  later = omega (arith, c.loop.invariant.later, c.write_all.ensures.cause.later);
}

pub loop-preserved : goal.loop-preserved
loop-preserved g c = record {
  fits = c.take.ensures.fits;
  wrote =
      wrote_look g.C.Counter.unsent c.args.at.now.conn (g.C.Counter.known c.args.seat.now)
      (g.C.Counter.known c.loop.seat) (g.C.Counter.known c.take.new.seat)
      (g.K.Sink.told c.args.sink.now).bytes (g.K.Sink.told c.loop.sink).bytes
      c.loop.invariant.wrote (search rules);
  later = c.loop.invariant.later;
}

pub returns-in-Ok-Ended-clause-wrote : goal.returns-in-Ok-Ended-clause-wrote
returns-in-Ok-Ended-clause-wrote g c =
    wrote_look g.C.Counter.unsent c.args.at.now.conn (g.C.Counter.known c.args.seat.now) (g.C.Counter.known c.loop.seat)
    (g.C.Counter.known c.take.new.seat)
    (g.K.Sink.told c.args.sink.now).bytes (g.K.Sink.told c.loop.sink).bytes
    c.loop.invariant.wrote (search rules)

pub returns-in-Err-clause-wrote : goal.returns-in-Err-clause-wrote
returns-in-Err-clause-wrote g c =
    wrote_so_far g.C.Counter.unsent c.args.at.now.conn (g.C.Counter.known c.args.seat.now)
    (g.C.Counter.known c.take.new.seat) (g.K.Sink.told c.args.sink.now).bytes (g.K.Sink.told c.loop.sink).bytes
    (wrote_look g.C.Counter.unsent c.args.at.now.conn (g.C.Counter.known c.args.seat.now)
    (g.C.Counter.known c.loop.seat) (g.C.Counter.known c.take.new.seat)
    (g.K.Sink.told c.args.sink.now).bytes (g.K.Sink.told c.loop.sink).bytes
    c.loop.invariant.wrote (search rules))
