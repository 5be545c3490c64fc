use Rattle.std.proofs.Common.{◌≡◌, ◌-◌, take, length}
use Rattle.std.specs.List.{flat_map}
use Rattle.acme_core.specs.Run.{run}
use Rattle.am_replay.specs.Scripts.{reply_line}
use Rattle.am_replay.proofs.script.replies_text.Given as goal

abbrev pub invariant-loop-conn : goal.invariant-loop-conn
invariant-loop-conn l = l.text ≡ flat_map reply_line (take l.k (run l.core.journal).replies)

abbrev pub decreases-loop-conn : goal.decreases-loop-conn
decreases-loop-conn l = length (run l.core.journal).replies - l.k
