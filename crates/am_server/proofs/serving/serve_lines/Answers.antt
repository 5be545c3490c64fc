use Rattle.std.proofs.Common.{ap, sym, arith}
use Rattle.am_desk.specs.Serving.{serving_known}
use Rattle.acme_core.specs.Run.{Editor}
use Rattle.am_slots.specs.Slots.{outside}
use Rattle.am_server.proofs.Closing.{lawful_played, none_told, served_lines}
use Rattle.am_server.proofs.serving.serve_lines.Goals as goal

pub finish-requires-clause-lawful : goal.finish-requires-clause-lawful
finish-requires-clause-lawful g c = lawful_played (serving_known c.serve_slots.new.seat).seen c.close.result.journal
    (ap (λ (x : Editor). x.journal) c.close.ensures.journal) c.close.ensures.played

pub returns-in-Ok-serve_slots-clause-serves : goal.returns-in-Ok-serve_slots-clause-serves
returns-in-Ok-serve_slots-clause-serves g c =
    served_lines {G = g.row.H-G.Denot} {L = g.row.H-G-L.Denot} {S = g.row.H-G-L-R.Denot} {K = g.row.H-G-L-W.Denot}
    c.ended_connections_get_nothing_more.ensures.all c.pieces_are_joined.ensures.pieces
    c.pieces_are_joined.ensures.broken
    (outside g.H.G.Gate.told g.H.G.L.Link.told g.H.G.L.R.Source.told g.H.G.L.W.Sink.told)
    c.args.service.now.path.now c.args.service.now.clients c.args.service.now.script.now _ _ c.in-Ok-serve_slots.slots
    c.in-Ok-serve_slots.end (serving_known c.serve_slots.new.seat)
    c.close.result.journal c.finish.result.journal c.finish.result.served c.finish.result.end
    c.in-Ok-serve_slots.ensures.count c.requires.clients.1 c.close.ensures.played c.close.ensures.in_range
    c.close.ensures.own c.close.ensures.once c.close.ensures.order
    c.in-Ok-serve_slots.ensures.serves c.in-Ok-serve_slots.ensures.tells c.in-Ok-serve_slots.ensures.risen
    c.in-Ok-serve_slots.ensures.given
    (ap (λ (x : Editor). x.journal) c.close.ensures.journal) c.finish.ensures.journal c.finish.ensures.served
    c.finish.ensures.writes

pub returns-in-Ok-serve_slots-clause-untouched : goal.returns-in-Ok-serve_slots-clause-untouched
returns-in-Ok-serve_slots-clause-untouched g c = λ none.
    absurd (none_told {G = g.row.H-G.Denot} {L = g.row.H-G-L.Denot} {S = g.row.H-G-L-R.Denot} {K = g.row.H-G-L-W.Denot}
    c.close.result.journal.events 0 c.in-Ok-serve_slots.slots c.finish.result.served c.finish.ensures.served
    (omega (arith, c.in-Ok-serve_slots.ensures.count, c.requires.clients.0)) none)
