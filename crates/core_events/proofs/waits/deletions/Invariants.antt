use Rattle.std.proofs.Common.{◌≡◌, ◌++◌, drop}
use Rattle.core_events.specs.Responses.{AreSaid}
use Rattle.core_events.specs.Waits.{deletions}
use Rattle.core_events.proofs.waits.deletions.Given as goal

abbrev pub invariant-loop-window : goal.invariant-loop-window
invariant-loop-window l = record {
  exact : l.said ++ deletions l.sessions.present (drop l.window-index l.windows) ≡ deletions l.sessions.present
      l.windows;
  said : AreSaid l.said;
}
