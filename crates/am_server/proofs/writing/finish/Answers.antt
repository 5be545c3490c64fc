use Rattle.std.proofs.Common.{List, subst}
use Rattle.am_base.specs.Seen.{seen}
use Rattle.am_slots.specs.declared.slot.Slot.{Slot}
use Rattle.am_server.specs.Ends.{Writes}
use Rattle.am_server.proofs.writing.finish.Goals as goal

pub returns-clause-writes : goal.returns-clause-writes
returns-clause-writes g c =
    subst (λ (l : List (Slot g.row.G.Denot g.row.L.Denot g.row.S.Denot g.row.K.Denot)). Writes c.args.core.journal l
    c.args.script
    (seen (g.O.Sink.told c.args.output.now) (g.O.Sink.told c.write_served-end.new.output)) c.write_served-end.result)
    c.as_slice.ensures c.write_served-end.ensures
