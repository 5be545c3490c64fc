use Rattle.std.proofs.Common.{sym, ◌∙◌}
use Rattle.am_base.specs.Seen.{given}
use Rattle.am_slots.specs.Slots.{outside}
use Rattle.acmefs.proofs.ServeEnds.{of_serve}
use Rattle.acmefs.proofs.serving.serve_main.Goals as goal

pub returns-clause-serves : goal.returns-clause-serves
returns-clause-serves g c =
    rw (c.outcome_of.ensures.journal, c.outcome_of.ensures.served)
    (of_serve {G = g.row.H-G.Denot} {L = g.row.H-G-L.Denot} {S = g.row.H-G-L-R.Denot} {K = g.row.H-G-L-W.Denot}
    c.journals_are_lawful.ensures
    (outside g.H.G.Gate.told g.H.G.L.Link.told g.H.G.L.R.Source.told g.H.G.L.W.Sink.told)
    _ _ (given (g.I.Source.told c.args.input.now) (g.I.Source.told c.serve.new.input) (g.H.Host.told c.args.host.now)
    (g.H.Host.told c.serve.new.host))
    _ _ _ _ c.serve.result.end c.outcome_of.ensures.status c.serve.ensures.says c.serve.ensures.possible)

pub returns-clause-events : goal.returns-clause-events
returns-clause-events g c = c.events_are_lawful.ensures _

pub returns-clause-ports : goal.returns-clause-ports
returns-clause-ports g c = c.ports_are_lawful.ensures _

pub returns-clause-unasked : goal.returns-clause-unasked
returns-clause-unasked g c = λ none. c.serve.ensures.untouched (sym c.outcome_of.ensures.served ∙ none)
