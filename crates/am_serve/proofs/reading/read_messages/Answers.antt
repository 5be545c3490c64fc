use Rattle.std.proofs.Common.{rules, ℕ, List, arith, refl, subst, sym}
use Rattle.am_base.specs.Seen.{seen}
use Rattle.ninep_cut.specs.Cuts.{TakesFirst, TakesNone}
use Rattle.am_serve.specs.declared.budget.Budget.{Budget}
use Rattle.am_serve.specs.Budget.{whole}
use Rattle.am_serve.specs.Sending.{ReadSoFar}
use Rattle.am_serve.specs.declared.sending.Stop.TheVariants as stop
use Rattle.am_serve.proofs.Streams.{read_nothing, sends_on, stops_sending, stops_spent, stops_unread, reads_on}
use Rattle.am_serve.proofs.Streams.{stops_reading}
use Rattle.am_serve.proofs.reading.read_messages.Goals as goal

pub returns-then-not-has_writer-clause-reads : goal.returns-then-not-has_writer-clause-reads
returns-then-not-has_writer-clause-reads g c =
    stops_unread g.C.Counter.enabled g.C.Counter.answer c.args.at.now.conn (g.C.Counter.known c.args.seat.now)
    (g.S.Source.told c.args.source.now).bytes

pub loop-init : goal.loop-init
loop-init g c =
    let P : List ℕ → Type 0 = λ x. ReadSoFar g.C.Counter.answer c.args.at.now.conn (g.C.Counter.known c.args.seat.now)
    (g.C.Counter.known c.args.seat.now) x whole (g.S.Source.told c.args.source.now).bytes
    (g.S.Source.told c.args.source.now).bytes in
    let Q : Budget → Type 0 = λ b. ReadSoFar g.C.Counter.answer c.args.at.now.conn (g.C.Counter.known c.args.seat.now)
    (g.C.Counter.known c.args.seat.now) c.new-cutter.result b (g.S.Source.told c.args.source.now).bytes
    (g.S.Source.told c.args.source.now).bytes in
    record {
      fits = c.requires.fits;
      so_far = subst Q (sym c.new-budget.ensures) (subst P (sym c.new-cutter.ensures)
          (read_nothing g.C.Counter.answer c.args.at.now.conn (g.C.Counter.known c.args.seat.now)
          (g.S.Source.told c.args.source.now).bytes));
      later = omega arith;
    }

pub returns-in-Err-send_message-clause-reads : goal.returns-in-Err-send_message-clause-reads
returns-in-Err-send_message-clause-reads g c =
    let t : TakesFirst c.loop.cutter c.next-in-loop.new.self c.next-in-loop.new.into = rw c.in-Ok-Whole.field-0-is at
    c.in-Ok-Whole.ensures.takes in
    stops_sending g.C.Counter.enabled g.C.Counter.answer c.args.at.now.conn (g.C.Counter.known c.args.seat.now)
    (g.C.Counter.known c.loop.seat) (g.C.Counter.known c.send_message.new.seat)
    c.loop.cutter c.next-in-loop.new.self c.next-in-loop.new.into c.as_slice-bytes.result.now c.loop.budget
    c.in-Err-send_message.stop
    (g.S.Source.told c.args.source.now).bytes (g.S.Source.told c.loop.source).bytes
    c.loop.invariant.so_far t c.as_slice-bytes.ensures (search rules) c.in-Err-send_message.ensures.err

pub loop-preserved-in_default : goal.loop-preserved-in_default
loop-preserved-in_default g c =
    let t : TakesFirst c.loop.cutter c.next-in-loop.new.self c.next-in-loop.new.into = rw c.in-Ok-Whole.field-0-is at
    c.in-Ok-Whole.ensures.takes in
    record {
      fits = c.send_message.ensures.fits;
      so_far =
          sends_on g.C.Counter.enabled g.C.Counter.answer c.args.at.now.conn (g.C.Counter.known c.args.seat.now)
          (g.C.Counter.known c.loop.seat) (g.C.Counter.known c.send_message.new.seat)
          c.loop.cutter c.next-in-loop.new.self c.next-in-loop.new.into c.as_slice-bytes.result.now c.loop.budget
          c.spend.new.self
          (g.S.Source.told c.args.source.now).bytes (g.S.Source.told c.loop.source).bytes
          c.loop.invariant.so_far t c.as_slice-bytes.ensures (search rules) (search rules) c.in_default.ensures.ok;
      later = c.loop.invariant.later;
    }

pub returns-then-not-wait_for_room-clause-reads : goal.returns-then-not-wait_for_room-clause-reads
returns-then-not-wait_for_room-clause-reads g c =
    let t : TakesNone c.loop.cutter c.next-in-loop.new.self c.loop.message c.next-in-loop.new.into =
    rw c.in-Ok-More.field-0-is at c.in-Ok-More.ensures.takes in
    stops_reading g.C.Counter.enabled g.C.Counter.answer c.args.at.now.conn (g.C.Counter.known c.args.seat.now)
    (g.C.Counter.known c.loop.seat) (g.C.Counter.known c.wait_for_room.new.seat)
    c.loop.cutter c.next-in-loop.new.self c.loop.message c.next-in-loop.new.into c.loop.budget stop.Ended
    (g.S.Source.told c.args.source.now).bytes (seen (g.S.Source.told c.loop.source) (g.S.Source.told c.loop.source))
    c.loop.invariant.so_far t (rw c.in-Ok-More.field-0-is at c.in-Ok-More.ensures.answer)
    c.pieces_are_joined.ensures.pieces c.wait_for_room.ensures.looks
    (refl, c.wait_for_room.ensures.ended (search rules))

pub returns-in-Err-read_piece-clause-reads : goal.returns-in-Err-read_piece-clause-reads
returns-in-Err-read_piece-clause-reads g c =
    let t : TakesNone c.loop.cutter c.next-in-loop.new.self c.loop.message c.next-in-loop.new.into =
    rw c.in-Ok-More.field-0-is at c.in-Ok-More.ensures.takes in
    stops_reading g.C.Counter.enabled g.C.Counter.answer c.args.at.now.conn (g.C.Counter.known c.args.seat.now)
    (g.C.Counter.known c.loop.seat) (g.C.Counter.known c.wait_for_room.new.seat)
    c.loop.cutter c.next-in-loop.new.self c.loop.message c.next-in-loop.new.into c.loop.budget
    (stop.Ends c.in-Err-read_piece.why)
    (g.S.Source.told c.args.source.now).bytes (seen (g.S.Source.told c.loop.source)
    (g.S.Source.told c.read_piece.new.source))
    c.loop.invariant.so_far t (rw c.in-Ok-More.field-0-is at c.in-Ok-More.ensures.answer)
    c.pieces_are_joined.ensures.pieces c.wait_for_room.ensures.looks
    (c.in-Err-read_piece.ensures.err, c.wait_for_room.ensures.room (search rules))

pub loop-preserved : goal.loop-preserved
loop-preserved g c =
    let t : TakesNone c.loop.cutter c.next-in-loop.new.self c.loop.message c.next-in-loop.new.into =
    rw c.in-Ok-More.field-0-is at c.in-Ok-More.ensures.takes in
    record {
      fits = c.wait_for_room.ensures.fits;
      so_far =
          reads_on g.C.Counter.answer c.args.at.now.conn (g.C.Counter.known c.args.seat.now)
          (g.C.Counter.known c.loop.seat) (g.C.Counter.known c.wait_for_room.new.seat)
          c.loop.cutter c.next-in-loop.new.self c.read_piece.new.cutter c.loop.message c.next-in-loop.new.into
          c.loop.budget
          (g.S.Source.told c.args.source.now).bytes (g.S.Source.told c.loop.source).bytes
          (g.S.Source.told c.read_piece.new.source).bytes
          c.loop.invariant.so_far t c.pieces_are_joined.ensures.pieces c.wait_for_room.ensures.looks
          c.in_default-read_piece.ensures.ok (c.wait_for_room.ensures.room (search rules));
      later = omega (arith, c.loop.invariant.later, c.read_piece.ensures.later);
    }

pub returns-then-not-spend-clause-reads : goal.returns-then-not-spend-clause-reads
returns-then-not-spend-clause-reads g c =
    let t : TakesFirst c.loop.cutter c.next-in-loop.new.self c.next-in-loop.new.into = rw c.in-Ok-Whole.field-0-is at
    c.in-Ok-Whole.ensures.takes in
    stops_spent g.C.Counter.enabled g.C.Counter.answer c.args.at.now.conn (g.C.Counter.known c.args.seat.now)
    (g.C.Counter.known c.loop.seat)
    c.loop.cutter c.next-in-loop.new.self c.next-in-loop.new.into c.as_slice-bytes.result.now c.loop.budget
    (g.S.Source.told c.args.source.now).bytes (g.S.Source.told c.loop.source).bytes
    c.loop.invariant.so_far t c.as_slice-bytes.ensures (search rules)
