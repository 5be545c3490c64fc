use Rattle.std.proofs.Common.{ℕ, ◌<◌, ◌∙◌, ◌∷◌, ◌||◌, length, map, refl, ap, arith}
use Rattle.std.specs.Prelude.{IsTrue}
use Rattle.re_sets.specs.Words.{on}
use Rattle.re_machine.proofs.Joining.{len}
use Rattle.re_machine.proofs.Parts.{one_often, one_repeated, many_inside, several_inside, often_more, repeated_more}
use Rattle.re_machine.proofs.Parts.{OnePart}
use Rattle.re_machine.proofs.fill.repeat_part.Goals as goal

pub returns-clause-often : goal.returns-clause-often
returns-clause-often g c = λ x e old r left i.
    let bits = g.S.LetterSet.bits in
    let rows = map bits c.args.rows.now in
    let f = c.args.filling.now in
    let w = one_often bits x old r left f rows i in
    let z = c.take-x.ensures.part w.p w.more w.items_are in
    let more = c.take-x.ensures.rest w.p w.more w.items_are in
    let inside : (m : ℕ) → IsTrue (on (bits c.take-x.result.last) m)
    → m < length c.args.rows.now = λ m h. omega (
      arith,
      many_inside bits x old r left f rows w m (rw z at h),
      len bits c.args.rows.now,
    ) in
    often_more bits x old r left f (record { parts = c.push_front.new.self; next = f.next }) rows
    (map bits c.add.new.rows) w c.repeated.result (rw z at (c.add.ensures.added inside))
    (omega (arith, len bits c.args.rows.now, len bits c.add.new.rows, c.add.ensures.len))
    (c.repeated.ensures.null ∙ ap (λ b. b || c.take-x.result.null) e) (rw z at c.repeated.ensures.first)
    (rw z at c.repeated.ensures.last) (c.in_ok-push_front.ensures.items ∙ ap (λ t. c.repeated.result ∷ t) more) refl

pub returns-clause-repeated : goal.returns-clause-repeated
returns-clause-repeated g c = λ x e old r left i.
    let bits = g.S.LetterSet.bits in
    let rows = map bits c.args.rows.now in
    let f = c.args.filling.now in
    let w = one_repeated bits x old r left f rows i in
    let z = c.take-x.ensures.part w.p w.more w.items_are in
    let more = c.take-x.ensures.rest w.p w.more w.items_are in
    let inside : (m : ℕ) → IsTrue (on (bits c.take-x.result.last) m)
    → m < length c.args.rows.now = λ m h. omega (
      arith,
      several_inside bits x old r left f rows w m (rw z at h),
      len bits c.args.rows.now,
    ) in
    repeated_more bits x old r left f (record { parts = c.push_front.new.self; next = f.next }) rows
    (map bits c.add.new.rows) w c.repeated.result (rw z at (c.add.ensures.added inside))
    (omega (arith, len bits c.args.rows.now, len bits c.add.new.rows, c.add.ensures.len))
    (c.repeated.ensures.null ∙ ap (λ b. b || c.take-x.result.null) e ∙ ap (λ p. p.null) z)
    (rw z at c.repeated.ensures.first) (rw z at c.repeated.ensures.last)
    (c.in_ok-push_front.ensures.items ∙ ap (λ t. c.repeated.result ∷ t) more) refl
