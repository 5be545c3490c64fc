use Rattle.plumb_ports.proofs.LawLemmas.{loses}
use Rattle.plumb_ports.proofs.laws.loses_nothing.Goals as goal

pub returns : goal.returns
returns c = loses
