use Rattle.std.proofs.Common.{◌-◌, length}
use Rattle.std.specs.Prelude.{map}
use Rattle.acme_tree.specs.Trees.{stat_of, entries}
use Rattle.core_fids.proofs.Parted.{IsPart}
use Rattle.core_fids.proofs.directory.dir_part.Given as goal

abbrev pub invariant-loop-bytes : goal.invariant-loop-bytes
invariant-loop-bytes l = IsPart (map (stat_of l.ports) (entries l.world l.ports l.dir)) l.skip l.count l.at l.bytes

abbrev pub decreases-loop-bytes : goal.decreases-loop-bytes
decreases-loop-bytes l = length (entries l.world l.ports l.dir) - l.at
