use Rattle.acmefs.proofs.program.acmefs.Goals as goal

pub returns-clause-answered : goal.returns-clause-answered
returns-clause-answered g c = c.refusals_follow_from_the_state.ensures _

pub returns-clause-events : goal.returns-clause-events
returns-clause-events g c = c.events_are_lawful.ensures _

pub returns-clause-ports : goal.returns-clause-ports
returns-clause-ports g c = c.ports_are_lawful.ensures _
