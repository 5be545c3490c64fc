use Rattle.std.proofs.Common.{◌≡◌, ◌++◌, ◌∷◌, [], refl, sym}
use Rattle.name_tree.specs.declared.origin.Origin.{Origin}
use Rattle.name_tree.specs.declared.undo.Undo.TheVariants.{Unmake}
use Rattle.name_tree.proofs.GrowthLemmas.{grown_entries, key_of_new}
use Rattle.name_tree.proofs.UndoLemmas.{growth_child}
use Rattle.name_tree.proofs.growing.Growing.child.Goals as goal

pub returns-clause-grown : goal.returns-clause-grown
returns-clause-grown c =
    let o : Origin = record { above = c.args.parent; name = c.args.name.now } in
    let steps : c.push_reserved.new.self.items ≡ c.args.self.now.trail.items ++ Unmake ∷ [] =
    rw (c.push_reserved.ensures.items, c.reserve.ensures.items) refl in
    rw (steps, c.in_ok-place.ensures.ok)
    (growth_child c.args.self.now.trail.items c.args.self.now.places c.requires.trie o c.requires.parent c.requires.name
    (sym c.in_default.ensures))

pub returns-clause-entries : goal.returns-clause-entries
returns-clause-entries c =
    let o : Origin = record { above = c.args.parent; name = c.args.name.now } in
    rw c.in_ok-place.ensures.ok (grown_entries c.args.self.now.places c.requires.trie o)

pub returns-clause-place : goal.returns-clause-place
returns-clause-place c = λ key h.
    let o : Origin = record { above = c.args.parent; name = c.args.name.now } in
    rw (c.in_ok-place.ensures.ok, c.in_ok-place.ensures.place) (key_of_new c.args.self.now.places o key h)
