use Rattle.acmefs.proofs.Kept.{of_none}
use Rattle.acmefs.proofs.outcome.idle.Goals as goal

pub returns-clause-journal : goal.returns-clause-journal
returns-clause-journal g c = of_none c.journals_are_lawful.ensures _ c.empty_journal.ensures
