use Rattle.std.proofs.Common.{◌≡◌, ◌≤◌, true}
use Rattle.std.specs.Prelude.{slice_range}
use Rattle.name_tree.specs.Kinds.{with_directories}
use Rattle.name_tree.specs.Paths.{above}
use Rattle.name_tree.specs.Shape.{keys, entries_of, is_name}
use Rattle.name_tree.specs.Undo.{IsGrowth}
use Rattle.name_tree.proofs.PartLemmas.{HangsAt}
use Rattle.name_tree.proofs.PathLemmas.{above_at}
use Rattle.name_tree.proofs.growing.Growing.reach.Given as goal

abbrev pub invariant-loop-k : goal.invariant-loop-k
invariant-loop-k l =
    IsGrowth l.initial.self.trail.items l.initial.self.places l.self.trail.items l.self.places
    × (with_directories (entries_of l.self.places) (above_at l.path l.k)
    ≡ with_directories (entries_of l.initial.self.places) (above l.initial.path))
    × (l.start ≤ l.k) × (is_name (slice_range l.path l.start l.k) ≡ true)
    × HangsAt (keys l.self.places.origins) l.place l.path l.start l.k
