use Rattle.std.proofs.Common.{◌≡◌, ◌+◌, ◌++◌, length, drop}
use Rattle.ninep_frame.specs.Directories.{records, fitting}
use Rattle.ninep_frame.proofs.directory.part_of.Given as goal

-- what was put, and what fits of the rest, is what fits of all
abbrev pub invariant-loop-given : goal.invariant-loop-given
invariant-loop-given l = record {
  bytes : l.bytes ++ records (fitting l.room (drop l.given l.stats)) ≡ records (fitting l.count l.stats);
  count : l.given + length (fitting l.room (drop l.given l.stats)) ≡ length (fitting l.count l.stats);
}
