use Rattle.std.proofs.Common.{◌≡◌, ◌++◌, take}
use Rattle.std.specs.Prelude.{map}
use Rattle.acme_tree.specs.declared.node.Node.TheVariants.{Window}
use Rattle.acme_tree.proofs.entries.put_windows.Given as goal

abbrev pub invariant-loop-window : goal.invariant-loop-window
invariant-loop-window l = l.nodes ≡ l.fn.nodes ++ map Window (take l.window-index l.windows)
