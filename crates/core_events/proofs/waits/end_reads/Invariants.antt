use Rattle.std.proofs.Common.{◌≡◌, take}
use Rattle.am_text.specs.Twice.{both}
use Rattle.core_events.specs.Waits.{ended}
use Rattle.core_events.proofs.waits.end_reads.Given as goal

abbrev pub invariant-loop-response : goal.invariant-loop-response
invariant-loop-response l = l.sessions ≡ both (ended l.fn.sessions.present (take l.response-index l.said))
