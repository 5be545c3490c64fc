use Rattle.plumb_ports.proofs.NumberLemmas.{numbering}
use Rattle.plumb_ports.proofs.laws.openings_are_numbered.Goals as goal

pub returns : goal.returns
returns c = numbering
