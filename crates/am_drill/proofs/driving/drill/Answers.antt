use Rattle.am_drill.proofs.Ended.{none}
use Rattle.am_drill.proofs.driving.drill.Goals as goal

pub returns-in_default-clause-says : goal.returns-in_default-clause-says
returns-in_default-clause-says g c = rw (c.nothing_done.ensures.end, c.nothing_done.ensures.journal)
    (none c.args.rounds (g.O.Sink.told c.args.output.now))
