use Rattle.std.proofs.Common.{sym, ap, ◌∙◌, map, []}
use Rattle.plumb_ports.specs.PortList.{with_kept}
use Rattle.plumb_ports.specs.Shown.{port_of}
use Rattle.plumb_ports.proofs.PortLemmas.{still-named, kept-written, kept-none, none-entry, written-none, kept-value}
use Rattle.plumb_ports.proofs.port_map.PortMap.take_kept.Goals as goal

pub returns-in_default-clause-messages : goal.returns-in_default-clause-messages
returns-in_default-clause-messages c =
    rw (← c.self.view_is) (c.new.ensures ∙ sym (kept-none c.self.inside.by_name.entries c.args.port
    (none-entry c.self.inside.by_name.entries c.args.port (sym c.in_default.ensures.value))))

pub returns-in_default-clause-new : goal.returns-in_default-clause-new
returns-in_default-clause-new c =
    rw (← c.self.view_is) (written-none c.self.inside.by_name.entries c.args.port [] (sym c.in_default.ensures.value))

pub invariant_of-self-2 : goal.invariant_of-self-2
invariant_of-self-2 c = still-named c.self.inside.names.items c.self.inside.by_name.entries c.args.port
    c.replace.new.dest c.self.invariant

pub returns-clause-messages : goal.returns-clause-messages
returns-clause-messages c =
    rw (← c.self.view_is)
    (c.replace.ensures.value ∙ sym (kept-value c.self.inside.by_name.entries c.args.port c.in-Some.kept.now
    (sym c.in-Some.ensures.value)))

pub returns-clause-new : goal.returns-clause-new
returns-clause-new c =
    rw (← c.self.view_is)
    (kept-written c.self.inside.by_name.entries c.args.port c.replace.new.dest
    ∙ ap (with_kept (map port_of c.self.inside.by_name.entries) c.args.port)
    (c.replace.ensures.after ∙ c.new-2.ensures))
