use Rattle.std.proofs.Common.{◌≤◌, sym, ◌∙◌, arith}
use Rattle.name_tree.proofs.PartLemmas.{walk_slash, walk_byte}
use Rattle.name_tree.proofs.places.Places.find.Goals.{then-ends_part, else-ends_part}
use Rattle.name_tree.proofs.places.Places.find.Goals as goal

pub loop-k-preserved : goal.loop-k-preserved
loop-k-preserved c =
    let within : c.loop-k.start ≤ c.loop-k.k = c.loop-k.invariant.0 in elim c.if-ends_part.branch [
      | then-ends_part w ↦ rw (w.place-is, w.start-is, w.child-place.ensures) (
        omega arith,
        sym (walk_slash c.args.self.now.names c.loop-k.place c.args.path.now c.loop-k.start c.loop-k.k 0
            c.loop-k-test.true (sym c.ends_part.ensures ∙ w.if-ends_part.true)) ∙ c.loop-k.invariant.1,
      )
      | else-ends_part w ↦ rw (w.place-is, w.start-is) (
        omega arith,
        sym (walk_byte c.args.self.now.names c.loop-k.place c.args.path.now c.loop-k.start c.loop-k.k 0 within
            c.loop-k-test.true (sym c.ends_part.ensures ∙ w.if-ends_part.false)) ∙ c.loop-k.invariant.1,
      )
    ]
