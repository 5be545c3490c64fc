use Rattle.rule_syntax.proofs.PortNames.{names_named}
use Rattle.rule_syntax.proofs.text_laws.names_are_ports.Goals as goal

pub returns : goal.returns
returns c = names_named
