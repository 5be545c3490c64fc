use Rattle.std.proofs.Common.{◌∙◌, ◌∷◌, refl, ap}
use Rattle.re_machine.proofs.Parts.{two_chosen, chosen_more, TwoParts}
use Rattle.re_machine.proofs.fill.choose_part.Goals as goal

pub returns : goal.returns
returns g c = λ x rows old r left i.
    let bits = g.S.LetterSet.bits in
    let f = c.args.filling.now in
    let w = two_chosen bits x old r left f rows i in
    let y = c.take-y.ensures.part w.q (w.p ∷ w.more) w.items_are in
    let z = c.take-x.ensures.part w.p w.more (c.take-y.ensures.rest w.q (w.p ∷ w.more) w.items_are) in
    let more = c.take-x.ensures.rest w.p w.more (c.take-y.ensures.rest w.q (w.p ∷ w.more) w.items_are) in
    chosen_more bits x old r left f (record { parts = c.push_front.new.self; next = f.next }) rows w c.either.result
    (rw (z, y) at c.either.ensures.null) (rw (z, y) at c.either.ensures.first) (rw (z, y) at c.either.ensures.last)
    (c.in_ok-push_front.ensures.items ∙ ap (λ t. c.either.result ∷ t) more) refl
