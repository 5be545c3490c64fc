use Rattle.std.proofs.Common.{sym, ◌∙◌}
use Rattle.plumb_ports.proofs.PortLemmas.{kept-entry, kept-none}
use Rattle.plumb_ports.proofs.port_map.PortMap.kept.Goals as goal

pub returns-in-Some : goal.returns-in-Some
returns-in-Some c =
    rw (← c.self.view_is) (c.as_slice.ensures ∙ sym (kept-entry c.self.inside.by_name.entries c.args.port _
    (sym c.in-Some.ensures.entry)))

pub returns-in-None : goal.returns-in-None
returns-in-None c =
    rw (← c.self.view_is) (sym (kept-none c.self.inside.by_name.entries c.args.port (sym c.in-None.ensures.entry)))
