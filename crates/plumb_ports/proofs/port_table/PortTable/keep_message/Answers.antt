use Rattle.std.proofs.Common.{◌≡◌, ◌++◌, ◌∷◌, []}
use Rattle.plumb_ports.specs.declared.undo.Undo.TheVariants.{Unkeep}
use Rattle.plumb_ports.proofs.UndoLemmas.{kept_one}
use Rattle.plumb_ports.proofs.port_table.PortTable.keep_message.Goals as goal

pub returns-clause-ok : goal.returns-clause-ok
returns-clause-ok c =
    let steps : c.push_reserved.new.self.items ≡ c.self.inside.trail.items ++ Unkeep c.args.port ∷ [] = cc in
    rw (← c.self.view_is, steps, c.in_ok-keep_message.ensures.ok)
    (kept_one c.self.inside.trail.items c.self.inside.ports c.args.port c.args.message)
