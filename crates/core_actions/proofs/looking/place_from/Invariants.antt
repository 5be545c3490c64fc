use Rattle.std.proofs.Common.{◌≡◌, ◌+◌, length}
use Rattle.core_actions.specs.Looking.{place_from}
use Rattle.core_actions.proofs.looking.place_from.Given as goal

abbrev pub invariant-loop-rest : goal.invariant-loop-rest
invariant-loop-rest l = record {
  told : place_from l.at l.wanted l.rest ≡ place_from l.start l.wanted l.text;
  size : l.at + length l.rest ≡ l.start + length l.text;
}

abbrev pub decreases-loop-rest : goal.decreases-loop-rest
decreases-loop-rest l = length l.rest
