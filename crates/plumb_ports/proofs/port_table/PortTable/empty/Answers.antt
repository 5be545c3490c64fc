use Rattle.std.proofs.Common.{◌≡◌, ◌++◌, ◌∷◌, []}
use Rattle.plumb_ports.specs.PortList.{kept_of}
use Rattle.plumb_ports.specs.declared.undo.Undo.TheVariants.{Restore}
use Rattle.plumb_ports.proofs.UndoLemmas.{emptied}
use Rattle.plumb_ports.proofs.port_table.PortTable.empty.Goals as goal

pub returns-clause-ok : goal.returns-clause-ok
returns-clause-ok c =
    let steps : c.push_reserved.new.self.items ≡ c.self.inside.trail.items ++ Restore c.args.port
    (kept_of c.self.inside.ports c.args.port) ∷ [] = cc in
    rw (← c.self.view_is, steps, c.take_kept-messages.ensures.new)
    (emptied c.self.inside.trail.items c.self.inside.ports c.args.port)
