use Rattle.core_fids.proofs.Named.{ports_named}
use Rattle.core_fids.proofs.server.port_names.Goals as goal

pub returns-clause-named : goal.returns-clause-named
returns-clause-named c = ports_named c.names.result.now c.names.ensures.named_well
