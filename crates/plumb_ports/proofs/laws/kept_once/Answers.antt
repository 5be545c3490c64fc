use Rattle.plumb_ports.proofs.LawLemmas.{once}
use Rattle.plumb_ports.proofs.laws.kept_once.Goals as goal

pub returns : goal.returns
returns c = once
