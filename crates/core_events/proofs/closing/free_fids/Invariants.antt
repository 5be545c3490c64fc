use Rattle.std.proofs.Common.{◌≡◌, take, fold}
use Rattle.am_text.specs.Twice.{both}
use Rattle.fid_table.specs.Tables.{fids_of}
use Rattle.core_events.specs.Closing.{without_fid}
use Rattle.core_events.specs.Sound.{IsSound}
use Rattle.core_events.proofs.closing.free_fids.Given as goal

abbrev pub invariant-loop-k : goal.invariant-loop-k
invariant-loop-k l = record {
  closed : l.book ≡ both (fold (without_fid l.at) l.fn.book.present (take l.k (fids_of l.sessions.present l.conn)));
  sound : IsSound l.at l.book.present;
}
