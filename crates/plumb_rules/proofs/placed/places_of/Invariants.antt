use Rattle.std.proofs.Common.{◌≡◌, ◌≤◌, ℕ, List, length, drop}
use Rattle.plumb_rules.specs.Attributes.{place_from, place_among}
use Rattle.plumb_rules.proofs.placed.places_of.Given as goal

abbrev pub invariant-loop-i : goal.invariant-loop-i
invariant-loop-i l = (l.i ≤ length l.attrs) × ((name : List ℕ) → place_among l.all name ≡ place_from l.i
    (drop l.i l.attrs) name)

abbrev pub decreases-loop-i : goal.decreases-loop-i
decreases-loop-i l = l.i
