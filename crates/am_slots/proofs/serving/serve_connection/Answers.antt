use Rattle.std.proofs.Common.{List, ℕ, Option, ap, subst, sym, ◌∙◌}
use Rattle.am_base.specs.Seen.{seen}
use Rattle.am_counter.specs.Known.{lists_of}
use Rattle.am_slots.specs.Sides.{Serves}
use Rattle.am_slots.proofs.Connected.{served}
use Rattle.am_slots.proofs.serving.serve_connection.Goals as goal

pub returns-clause-has : goal.returns-clause-has
returns-clause-has g c =
    let w = g.C.Counter.known c.take_in.new.seat in
    let P : Option (List ℕ) → Type 0 = λ first.
    Serves g.C.Counter.enabled g.C.Counter.unsent g.C.Counter.answer c.args.at.now.conn w.seen first
    (g.S.Source.told c.serve_sides-read.new.objects.reader).bytes
    c.serve_sides-read.result.0 c.serve_sides-read.result.1 (g.K.Sink.told c.serve_sides-read.new.objects.writer).bytes
    (lists_of w) in
    subst P (c.requires.begins.0 ∙ sym (ap (λ (l : g.row.L.Denot). (g.L.Link.told l).begins)
    c.serve_sides-read.ensures.others.1))
    (served g.C.Counter.enabled g.C.Counter.unsent g.C.Counter.answer c.args.at.now.conn
    (g.C.Counter.known c.args.seat.now) (g.C.Counter.known c.split-other.new.seat)
    (g.C.Counter.known c.split-other.result)
    (g.C.Counter.known c.serve_sides-read.new.seat) (g.C.Counter.known c.serve_sides-read.new.other) w
    (seen (g.S.Source.told c.args.objects.reader) (g.S.Source.told c.serve_sides-read.new.objects.reader))
    (seen (g.K.Sink.told c.args.objects.writer) (g.K.Sink.told c.serve_sides-read.new.objects.writer))
    c.serve_sides-read.result.0 c.serve_sides-read.result.1
    c.requires.dialled c.split-other.ensures.known c.split-other.ensures.new c.serve_sides-read.ensures.read
    c.serve_sides-read.ensures.wrote c.take_in.ensures.known
    c.requires.begins.1)
