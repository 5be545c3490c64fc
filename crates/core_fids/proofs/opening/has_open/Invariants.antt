use Rattle.std.proofs.Common.{◌≡◌, ◌≤◌, ◌-◌, length, take}
use Rattle.std.specs.List.{list_any}
use Rattle.fid_table.specs.Tables.{fids_of}
use Rattle.core_fids.specs.Opening.{has_open}
use Rattle.core_fids.proofs.opening.has_open.Given as goal

abbrev pub invariant-loop-k : goal.invariant-loop-k
invariant-loop-k l = record {
  all : l.count ≡ length (fids_of l.sessions.present l.conn);
  within : l.k ≤ l.count;
  seen : l.found ≡ list_any (has_open l.window l.file) (take l.k (fids_of l.sessions.present l.conn));
}

abbrev pub decreases-loop-k : goal.decreases-loop-k
decreases-loop-k l = l.count - l.k
