use Rattle.std.proofs.Common.{sym, ap, ◌∙◌}
use Rattle.acme_tree.specs.declared.node.Node.{Node}
use Rattle.acme_tree.specs.Walks.{entry_named}
use Rattle.acme_tree.proofs.Named.{in_root}
use Rattle.acme_tree.proofs.walk.entry_named.Goals as goal

pub returns-in-Root : goal.returns-in-Root
returns-in-Root c =
    in_root c.args.world.now c.args.ports.now c.args.name.now c.in_root.result c.in_root.ensures
    ∙ sym (ap (λ (dir : Node). entry_named c.args.world.now c.args.ports.now dir c.args.name.now) c.in-Root.is)
