use Rattle.event_laws.proofs.PortJournals.{lawful}
use Rattle.event_laws.proofs.port_laws.ports_are_lawful.Goals as goal

pub returns : goal.returns
returns c = lawful
