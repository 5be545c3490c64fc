use Rattle.plumb_ports.proofs.LawfulLemmas.{stays}
use Rattle.plumb_ports.proofs.laws.keeps_at_most_64.Goals as goal

pub returns : goal.returns
returns c = stays
