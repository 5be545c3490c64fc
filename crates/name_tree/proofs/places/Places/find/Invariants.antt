use Rattle.std.proofs.Common.{◌≡◌, ◌≤◌, drop}
use Rattle.std.specs.Prelude.{slice_range}
use Rattle.name_tree.specs.Shape.{walk, place_at}
use Rattle.name_tree.proofs.places.Places.find.Given as goal

abbrev pub invariant-loop-k : goal.invariant-loop-k
invariant-loop-k l =
    (l.start ≤ l.k)
    × (walk l.self.names l.place (slice_range l.path l.start l.k) (drop l.k l.path) ≡ place_at l.initial.self.names
    l.initial.path)
