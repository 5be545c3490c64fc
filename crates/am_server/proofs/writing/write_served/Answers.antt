use Rattle.std.proofs.Common.{inr, refl, subst}
use Rattle.am_base.specs.Seen.{seen}
use Rattle.am_server.specs.Putting.{StopsAt}
use Rattle.am_server.specs.declared.texts.Stop.{Stop}
use Rattle.am_server.proofs.writing.write_served.Goals as goal

pub returns-in-Err-NoMemory : goal.returns-in-Err-NoMemory
returns-in-Err-NoMemory g c =
    let P : Stop → Type 0 =
    λ x. StopsAt {G = g.row.G.Denot} {L = g.row.L.Denot} {S = g.row.S.Denot} {K = g.row.K.Denot} x
    (seen (g.O.Sink.told c.args.output.now) (g.O.Sink.told c.put_text.new.output)) c.args.core.now.journal
    c.args.slots.now c.args.script in
    inr (inr (refl, subst P c.in-Err-NoMemory.field-0-is c.in-Err-NoMemory.ensures.err))
