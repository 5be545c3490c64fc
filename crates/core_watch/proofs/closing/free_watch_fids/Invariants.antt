use Rattle.std.proofs.Common.{◌≡◌, take, fold}
use Rattle.am_text.specs.Twice.{both}
use Rattle.fid_table.specs.Tables.{fids_of}
use Rattle.core_watch.specs.Closing.{without_fid}
use Rattle.core_watch.specs.Sound.{IsWatchSound, IsWatchIdle}
use Rattle.core_watch.proofs.closing.free_watch_fids.Given as goal

abbrev pub invariant-loop-k : goal.invariant-loop-k
invariant-loop-k l = record {
  closed : l.watch ≡ both (fold (without_fid l.at) l.fn.watch.present (take l.k (fids_of l.sessions.present l.conn)));
  sound : IsWatchSound l.watch.present;
  idle : IsWatchIdle l.fn.watch.present → IsWatchIdle l.watch.present;
}
