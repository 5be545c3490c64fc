use Rattle.std.proofs.Common.{sym, ap, ◌∙◌, map}
use Rattle.plumb_ports.specs.PortList.{with_kept}
use Rattle.plumb_ports.specs.Undo.{without_last}
use Rattle.plumb_ports.specs.Shown.{port_of}
use Rattle.plumb_ports.proofs.PortLemmas.{still-named, kept-written, written-none, kept-value}
use Rattle.plumb_ports.proofs.port_map.PortMap.unkeep.Goals as goal

pub returns-in_default : goal.returns-in_default
returns-in_default c =
    rw (← c.self.view_is) (written-none c.self.inside.by_name.entries c.args.port _ (sym c.in_default.ensures.value))

pub invariant_of-self-2 : goal.invariant_of-self-2
invariant_of-self-2 c = still-named c.self.inside.names.items c.self.inside.by_name.entries c.args.port c.pop.new.self
    c.self.invariant

pub returns : goal.returns
returns c =
    rw (← c.self.view_is)
    (kept-written c.self.inside.by_name.entries c.args.port c.pop.new.self
    ∙ ap (with_kept (map port_of c.self.inside.by_name.entries) c.args.port)
    (c.pop.ensures ∙ ap without_last (sym (kept-value c.self.inside.by_name.entries c.args.port c.in-Some.kept.now
    (sym c.in-Some.ensures.value)))))
