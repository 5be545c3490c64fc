use Rattle.std.proofs.Common.{◌≡◌, ◌++◌, ◌∷◌, [], refl, arith}
use Rattle.std.proofs.lemmas.List.{nil_from_length}
use Rattle.name_tree.specs.declared.origin.Origin.{Origin}
use Rattle.name_tree.specs.declared.undo.Undo.TheVariants.{Unmake}
use Rattle.name_tree.proofs.GrowthLemmas.{top_key, no_child}
use Rattle.name_tree.proofs.UndoLemmas.{growth_top}
use Rattle.name_tree.proofs.growing.Growing.top.Goals as goal

pub returns-then-len-gt0-clause-top : goal.returns-then-len-gt0-clause-top
returns-then-len-gt0-clause-top c =
    top_key c.args.self.now.places c.requires.trie (let e = c.len.ensures.len in let l = c.if-len-gt0.true in
    omega arith)

pub returns-clause-grown : goal.returns-clause-grown
returns-clause-grown c =
    let o : Origin = record { above = 0; name = [] } in
    let none : c.args.self.now.places.origins ≡ [] = nil_from_length c.args.self.now.places.origins
    (let e = c.len.ensures.len in let l = c.if-len-gt0.false in omega arith) in
    let steps : c.push_reserved.new.self.items ≡ c.args.self.now.trail.items ++ Unmake ∷ [] =
    rw (c.push_reserved.ensures.items, c.reserve.ensures.items) refl in
    rw (steps, c.in_ok-place.ensures.ok)
    (growth_top c.args.self.now.trail.items c.args.self.now.places c.requires.trie none o
    (no_child c.args.self.now.places c.requires.trie none 0 []))
