use Rattle.std.proofs.Common.{◌≡◌, take}
use Rattle.std.specs.Prelude.{All, map}
use Rattle.ninep_frame.specs.Records.{IsName, HasName}
use Rattle.acme_tree.specs.Trees.{stat_of}
use Rattle.acme_tree.proofs.listing.stats_of.Given as goal

abbrev pub invariant-loop-node : goal.invariant-loop-node
invariant-loop-node l = record {
  listed : l.stats ≡ map (stat_of l.ports) (take l.node-index l.nodes);
  named : All IsName l.ports → All HasName l.stats;
}
