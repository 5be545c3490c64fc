use Rattle.std.proofs.Common.{◌≡◌, ◌++◌, ◌∷◌, []}
use Rattle.plumb_ports.specs.PortList.{named}
use Rattle.plumb_ports.specs.declared.undo.Undo.TheVariants.{Remove}
use Rattle.plumb_ports.proofs.UndoLemmas.{added}
use Rattle.plumb_ports.proofs.port_table.PortTable.add.Goals as goal

pub returns-clause-ok : goal.returns-clause-ok
returns-clause-ok c =
    let steps : c.push_reserved.new.self.items ≡ c.self.inside.trail.items ++ Remove ∷ [] = cc in
    rw (← c.self.view_is, steps, c.in_ok-add.ensures.ok)
    (added c.self.inside.trail.items c.self.inside.ports (named c.args.name.now))
