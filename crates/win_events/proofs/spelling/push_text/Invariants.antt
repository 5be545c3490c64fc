use Rattle.std.proofs.Common.{◌≡◌, ◌++◌, length}
use Rattle.am_text.specs.Utf8.{utf8}
use Rattle.win_events.proofs.spelling.push_text.Given as goal

abbrev pub invariant-loop-rest : goal.invariant-loop-rest
invariant-loop-rest l = l.bytes ++ utf8 l.rest ≡ l.fn.bytes ++ utf8 l.text

abbrev pub decreases-loop-rest : goal.decreases-loop-rest
decreases-loop-rest l = length l.rest
