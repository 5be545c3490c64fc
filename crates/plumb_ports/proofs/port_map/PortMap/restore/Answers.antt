use Rattle.std.proofs.Common.{sym}
use Rattle.plumb_ports.proofs.PortLemmas.{still-named, kept-written, written-none}
use Rattle.plumb_ports.proofs.port_map.PortMap.restore.Goals as goal

pub returns-in_default : goal.returns-in_default
returns-in_default c =
    rw (← c.self.view_is) (written-none c.self.inside.by_name.entries c.args.port c.args.messages
    (sym c.in_default.ensures.value))

pub invariant_of-self-2 : goal.invariant_of-self-2
invariant_of-self-2 c = still-named c.self.inside.names.items c.self.inside.by_name.entries c.args.port c.args.messages
    c.self.invariant

pub returns : goal.returns
returns c = rw (← c.self.view_is) (kept-written c.self.inside.by_name.entries c.args.port c.args.messages)
