use Rattle.std.proofs.Common.{◌-◌, ◌≡◌, ◌≤◌, ◌+◌}
use Rattle.std.specs.Prelude.{slice_range}
use Rattle.core_addresses.specs.Data.{runes_within}
use Rattle.core_addresses.proofs.data.runes_within.Given as goal

abbrev pub invariant-loop-at : goal.invariant-loop-at
invariant-loop-at l = (l.from ≤ l.at) × (l.at ≤ l.to)
    × (runes_within l.count (slice_range l.body.state.text l.from l.to) ≡ (l.at - l.from) + runes_within
    l.room (slice_range l.body.state.text l.at l.to))

abbrev pub decreases-loop-at : goal.decreases-loop-at
decreases-loop-at l = l.to - l.at
