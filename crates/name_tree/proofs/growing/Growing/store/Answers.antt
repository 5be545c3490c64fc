use Rattle.std.proofs.Common.{◌≡◌, ◌++◌, ◌∷◌, [], Some, refl}
use Rattle.name_tree.specs.declared.undo.Undo.TheVariants.{Restore}
use Rattle.name_tree.proofs.TrieLemmas.{put_entries}
use Rattle.name_tree.proofs.UndoLemmas.{growth_put}
use Rattle.name_tree.proofs.growing.Growing.store.Goals as goal

pub returns-clause-grown : goal.returns-clause-grown
returns-clause-grown c =
    let steps : c.push_reserved.new.self.items ≡ c.args.self.now.trail.items ++ Restore c.args.place
    c.put-before.result ∷ [] = rw (c.push_reserved.ensures.items, c.reserve.ensures.items) refl in
    rw (steps, c.put-before.ensures.new)
    (growth_put c.args.self.now.trail.items c.args.self.now.places c.requires.trie c.args.place (Some c.args.node)
    c.put-before.result (Some c.args.node) c.put-before.ensures.before)

pub returns-clause-ok : goal.returns-clause-ok
returns-clause-ok c = λ b path h. rw c.put-before.ensures.new (put_entries c.args.self.now.places c.requires.trie
    c.args.place b path c.args.node h)
