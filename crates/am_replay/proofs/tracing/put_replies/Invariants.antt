use Rattle.std.proofs.Common.{◌≡◌, ◌-◌, ◌++◌, take, length}
use Rattle.std.specs.List.{AllByRecursion, flat_map}
use Rattle.acme_core.specs.Run.{run}
use Rattle.am_replay.specs.Traces.{reply_words, HasWords}
use Rattle.am_replay.proofs.tracing.put_replies.Given as goal

abbrev pub invariant-loop-conn : goal.invariant-loop-conn
invariant-loop-conn l = record {
  text : l.text ≡ l.fn.text ++ flat_map reply_words (take l.k (run l.core.journal).replies);
  worded : AllByRecursion HasWords (take l.k (run l.core.journal).replies);
}

abbrev pub decreases-loop-conn : goal.decreases-loop-conn
decreases-loop-conn l = length (run l.core.journal).replies - l.k
