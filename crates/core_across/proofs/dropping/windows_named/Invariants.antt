use Rattle.std.proofs.Common.{◌≡◌, length}
use Rattle.core_across.specs.Dropping.{windows_named, before, AreLive}
use Rattle.core_across.proofs.dropping.windows_named.Given as goal

-- the windows so far before those of the names that are left are all
abbrev pub invariant-loop-rest : goal.invariant-loop-rest
invariant-loop-rest l = record {
  told : before l.all (windows_named l.windows.present l.dir l.rest) ≡ windows_named l.windows.present l.dir l.names;
  live : AreLive l.windows.present l.all;
}

abbrev pub decreases-loop-rest : goal.decreases-loop-rest
decreases-loop-rest l = length l.rest
