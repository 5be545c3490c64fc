use Rattle.plumb_ports.proofs.LawLemmas.{leaves}
use Rattle.plumb_ports.proofs.laws.leaves_others.Goals as goal

pub returns : goal.returns
returns c = leaves
