use Rattle.std.proofs.Common.{◌≤◌, sym, ◌∙◌, arith}
use Rattle.name_tree.specs.Shape.{entries_of}
use Rattle.name_tree.proofs.BelowLemmas.{file_before, no_file_before}
use Rattle.name_tree.proofs.PartLemmas.{so_far_slash, so_far_byte}
use Rattle.name_tree.proofs.PathLemmas.{any_found, any_next}
use Rattle.name_tree.proofs.places.Places.is_below_file.Goals.{then-ends_part+else-is_file_at, else-ends_part}
use Rattle.name_tree.proofs.places.Places.is_below_file.Goals as goal

pub returns-then-is_file_at : goal.returns-then-is_file_at
returns-then-is_file_at c =
    sym (any_found (entries_of c.args.self.now) c.args.path.now c.loop-k.k 0 c.loop-k-test.true
    (file_before c.args.self.now c.requires.trie c.loop-k.place c.args.path.now c.loop-k.start c.loop-k.k
    c.loop-k.invariant.1 (sym c.ends_part.ensures ∙ c.if-ends_part.true)
    ∙ sym (rw c.child-place.ensures at c.is_file_at.ensures) ∙ c.if-is_file_at.true))
    ∙ c.loop-k.invariant.2

pub loop-k-preserved : goal.loop-k-preserved
loop-k-preserved c =
    let within : c.loop-k.start ≤ c.loop-k.k = c.loop-k.invariant.0 in elim c.if-ends_part.branch [
      | then-ends_part+else-is_file_at w ↦ rw (w.place-is, w.start-is, w.child-place.ensures) (
        omega arith,
        so_far_slash c.args.self.now.names c.loop-k.place c.args.path.now c.loop-k.start c.loop-k.k 0 c.loop-k-test.true
            (sym c.ends_part.ensures ∙ w.if-ends_part.true) c.loop-k.invariant.1,
        any_next (entries_of c.args.self.now) c.args.path.now c.loop-k.k 0 c.loop-k-test.true
            (file_before c.args.self.now c.requires.trie c.loop-k.place c.args.path.now c.loop-k.start c.loop-k.k
            c.loop-k.invariant.1 (sym c.ends_part.ensures ∙ w.if-ends_part.true)
            ∙ sym (rw w.child-place.ensures at w.is_file_at.ensures) ∙ w.if-is_file_at.false)
            ∙ c.loop-k.invariant.2,
      )
      | else-ends_part w ↦ rw (w.place-is, w.start-is) (
        omega arith,
        so_far_byte c.args.self.now.names c.loop-k.place c.args.path.now c.loop-k.start c.loop-k.k 0 within
            c.loop-k-test.true (sym c.ends_part.ensures ∙ w.if-ends_part.false) c.loop-k.invariant.1,
        any_next (entries_of c.args.self.now) c.args.path.now c.loop-k.k 0 c.loop-k-test.true
            (no_file_before c.args.self.now c.args.path.now c.loop-k.k (sym c.ends_part.ensures ∙ w.if-ends_part.false))
            ∙ c.loop-k.invariant.2,
      )
    ]
