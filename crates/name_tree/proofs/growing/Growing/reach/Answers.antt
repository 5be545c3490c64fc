use Rattle.std.proofs.Common.{◌≡◌, ◌==◌, ◌≤◌, ◌+◌, true, false, get_or, sym, ◌∙◌, arith}
use Rattle.am_text.specs.Ascii.{slash}
use Rattle.name_tree.specs.Shape.{keys, entries_of}
use Rattle.name_tree.proofs.BelowLemmas.{next_slash, next_byte}
use Rattle.name_tree.proofs.PartLemmas.{name_none, name_more, hangs_slash, hangs_byte}
use Rattle.name_tree.proofs.UndoLemmas.{growth_both}
use Rattle.name_tree.proofs.growing.Growing.reach.Goals.{then-ends_part+in_ok-place-2, else-ends_part}
use Rattle.name_tree.proofs.growing.Growing.reach.Goals as goal

pub loop-k-preserved : goal.loop-k-preserved
loop-k-preserved c =
    let within : c.loop-k.start ≤ c.loop-k.k = c.loop-k.invariant.2 in elim c.if-ends_part.branch [
      | then-ends_part+in_ok-place-2 w ↦
          let at : (get_or c.args.path.now c.loop-k.k 0 == slash) ≡ true = sym c.ends_part.ensures
          ∙ w.if-ends_part.true in
          rw (w.self-is, w.place-is, w.start-is) (
            growth_both c.top.new.self.trail.items c.loop-k.self.trail.items w.onward.new.self.trail.items
                c.top.new.self.places c.loop-k.self.places w.onward.new.self.places c.loop-k.invariant.0
                w.onward.ensures.grown,
            next_slash (entries_of c.loop-k.self.places) (entries_of w.onward.new.self.places) c.args.path.now
                c.loop-k.k c.loop-k-test.true at w.in_ok-place-2.ensures.ok ∙ c.loop-k.invariant.1,
            omega arith,
            name_none c.args.path.now (c.loop-k.k + 1),
            hangs_slash (keys w.onward.new.self.places.origins) w.in_ok-place-2.place c.args.path.now c.loop-k.k 0
                c.loop-k-test.true at w.in_ok-place-2.ensures.place,
          )
      | else-ends_part w ↦
          let at : (get_or c.args.path.now c.loop-k.k 0 == slash) ≡ false = sym c.ends_part.ensures
          ∙ w.if-ends_part.false in
          rw (w.self-is, w.place-is, w.start-is) (
            c.loop-k.invariant.0,
            next_byte (entries_of c.loop-k.self.places) c.args.path.now c.loop-k.k c.loop-k-test.true at
                ∙ c.loop-k.invariant.1,
            omega arith,
            name_more c.args.path.now c.loop-k.start c.loop-k.k 0 within c.loop-k-test.true at c.loop-k.invariant.3,
            hangs_byte (keys c.loop-k.self.places.origins) c.loop-k.place c.args.path.now c.loop-k.start c.loop-k.k 0
                within c.loop-k-test.true c.loop-k.invariant.4,
          )
    ]
