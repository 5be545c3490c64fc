use Rattle.std.proofs.Common.{◌≡◌, ◌≤◌, ◌-◌}
use Rattle.core_fids.specs.Opening.{open_below}
use Rattle.core_fids.proofs.opening.someone_has_open.Given as goal

abbrev pub invariant-loop-conn : goal.invariant-loop-conn
invariant-loop-conn l = record {
  few : l.conn ≤ 64;
  seen : l.found ≡ open_below l.sessions.present l.window l.file l.conn;
}

abbrev pub decreases-loop-conn : goal.decreases-loop-conn
decreases-loop-conn l = 64 - l.conn
