use Rattle.std.proofs.Common.{ℕ, ◌<◌, ◌≡◌, ◌∙◌, ◌∷◌, length, map, refl, ap, arith}
use Rattle.re_machine.specs.Filling.{IsFilling}
use Rattle.std.specs.Prelude.{IsTrue}
use Rattle.re_sets.specs.Words.{on}
use Rattle.re_machine.proofs.Joining.{len}
use Rattle.re_machine.proofs.Parts.{two_joined, first_inside, joined_more, TwoParts}
use Rattle.re_machine.proofs.fill.join_parts.Goals as goal

pub returns-clause-filled : goal.returns-clause-filled
returns-clause-filled g c = λ x old r left i.
    let bits = g.S.LetterSet.bits in
    let rows = map bits c.args.rows.now in
    let f = c.args.filling.now in
    let w = two_joined bits x old r left f rows i in
    let y = c.take-y.ensures.part w.q (w.p ∷ w.more) w.items_are in
    let z = c.take-x.ensures.part w.p w.more (c.take-y.ensures.rest w.q (w.p ∷ w.more) w.items_are) in
    let more = c.take-x.ensures.rest w.p w.more (c.take-y.ensures.rest w.q (w.p ∷ w.more) w.items_are) in
    let inside : (m : ℕ) → IsTrue (on (bits c.take-x.result.last) m)
    → m < length c.args.rows.now = λ m h. omega (
      arith,
      first_inside bits x old r left f rows w m (rw z at h),
      len bits c.args.rows.now,
    ) in
    joined_more bits x old r left f (record { parts = c.push_front.new.self; next = f.next }) rows
    (map bits c.add.new.rows) w c.after.result (rw (z, y) at (c.add.ensures.added inside))
    (omega (arith, len bits c.args.rows.now, len bits c.add.new.rows, c.add.ensures.len))
    (rw (z, y) at c.after.ensures.null) (rw (z, y) at c.after.ensures.first) (rw (z, y) at c.after.ensures.last)
    (c.in_ok-push_front.ensures.items ∙ ap (λ t. c.after.result ∷ t) more) refl
