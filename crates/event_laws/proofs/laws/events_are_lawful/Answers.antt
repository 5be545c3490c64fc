use Rattle.event_laws.proofs.Journals.{lawful}
use Rattle.event_laws.proofs.laws.events_are_lawful.Goals as goal

pub returns : goal.returns
returns c = lawful
