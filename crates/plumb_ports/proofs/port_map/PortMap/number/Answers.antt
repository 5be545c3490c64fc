use Rattle.std.proofs.Common.{sym, ◌∙◌}
use Rattle.plumb_ports.proofs.PortLemmas.{number-key}
use Rattle.plumb_ports.proofs.port_map.PortMap.number.Goals as goal

pub returns-in-Some : goal.returns-in-Some
returns-in-Some c =
    rw (← c.self.view_is) (sym c.in-Some.is ∙ c.get_index_of.ensures.index ∙ number-key c.self.inside.by_name.entries
    c.args.name.now)

pub returns-in-None : goal.returns-in-None
returns-in-None c =
    rw (← c.self.view_is) (sym c.in-None.is ∙ c.get_index_of.ensures.index ∙ number-key c.self.inside.by_name.entries
    c.args.name.now)
