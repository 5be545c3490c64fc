use Rattle.acmefs.proofs.Drills.{drill_done}
use Rattle.acmefs.proofs.Kept.{of_done}
use Rattle.acmefs.proofs.drill.drill_main.Goals as goal

pub returns-clause-drills : goal.returns-clause-drills
returns-clause-drills g c = (c.drill-drilled.result.end, c.drill_status.ensures, c.drill-drilled.ensures.says)

pub returns-clause-journal : goal.returns-clause-journal
returns-clause-journal g c =
    of_done c.journals_are_lawful.ensures _
    (drill_done c.drill-drilled.result.end c.args.rounds _ _ (c.drill_is_played.ensures.played c.args.rounds
    c.requires.rounds.1) (c.drill_is_played.ensures.in_range c.args.rounds) c.drill-drilled.ensures.says)
    c.drill-drilled.ensures.possible

pub returns-clause-events : goal.returns-clause-events
returns-clause-events g c = c.events_are_lawful.ensures _

pub returns-clause-ports : goal.returns-clause-ports
returns-clause-ports g c = c.ports_are_lawful.ensures _
