use Rattle.std.proofs.Common.{◌≡◌, ◌≤◌}
use Rattle.std.specs.List.{list_any}
use Rattle.name_tree.specs.Kinds.{is_file, is_below_file}
use Rattle.name_tree.specs.Shape.{entries_of}
use Rattle.name_tree.proofs.PartLemmas.{IsSoFar}
use Rattle.name_tree.proofs.PathLemmas.{above_at}
use Rattle.name_tree.proofs.places.Places.is_below_file.Given as goal

abbrev pub invariant-loop-k : goal.invariant-loop-k
invariant-loop-k l =
    (l.start ≤ l.k) × IsSoFar l.self.names l.place l.path l.start l.k
    × (list_any (is_file (entries_of l.self)) (above_at l.path l.k) ≡ is_below_file (entries_of l.initial.self)
    l.initial.path)
