use Rattle.std.proofs.Common.{rules}
use Rattle.acme_tree.proofs.Named.{in_root_rest}
use Rattle.acme_tree.proofs.walk.in_root.Goals as goal

pub returns-in-None : goal.returns-in-None
returns-in-None c =
    in_root_rest c.args.world.now c.args.name.now c.to_window.result (search rules) (search rules)
