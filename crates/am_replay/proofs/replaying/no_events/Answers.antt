use Rattle.am_replay.proofs.Idle.{laws}
use Rattle.am_replay.proofs.replaying.no_events.Goals as goal

pub returns-clause-laws : goal.returns-clause-laws
returns-clause-laws c = laws c.journals_are_lawful.ensures c.args.format _ c.empty_journal.ensures
