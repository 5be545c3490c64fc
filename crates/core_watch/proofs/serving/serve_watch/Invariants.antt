use Rattle.std.proofs.Common.{◌≡◌, ◌++◌, length}
use Rattle.core_events.specs.Responses.{AreSaid}
use Rattle.core_watch.specs.Serving.{watch_served, watch_after_serving}
use Rattle.core_watch.specs.Sound.{IsWatchSound}
use Rattle.core_watch.proofs.serving.serve_watch.Given as goal

abbrev pub invariant-loop-said : goal.invariant-loop-said
invariant-loop-said l = record {
  exact : l.said ++ watch_served l.at l.watch.present ≡ watch_served l.at l.fn.watch.present;
  rest : watch_after_serving l.at l.watch.present ≡ watch_after_serving l.at l.fn.watch.present;
  kept : l.watch.kept ≡ l.fn.watch.kept;
  said : AreSaid l.said;
  sound : IsWatchSound l.watch.present;
}

abbrev pub decreases-loop-said : goal.decreases-loop-said
decreases-loop-said l = length l.watch.present.reads
