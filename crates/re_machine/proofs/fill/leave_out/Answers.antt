use Rattle.std.proofs.Common.{◌∙◌, ◌∷◌, refl, ap}
use Rattle.re_machine.proofs.Parts.{one_optional, optional_more, OnePart}
use Rattle.re_machine.proofs.fill.leave_out.Goals as goal

pub returns : goal.returns
returns g c = λ x rows old r left i.
    let bits = g.S.LetterSet.bits in
    let f = c.args.filling.now in
    let w = one_optional bits x old r left f rows i in
    let z = c.take-x.ensures.part w.p w.more w.items_are in
    let more = c.take-x.ensures.rest w.p w.more w.items_are in
    optional_more bits x old r left f (record { parts = c.push_front.new.self; next = f.next }) rows w c.repeated.result
    c.repeated.ensures.null (rw z at c.repeated.ensures.first) (rw z at c.repeated.ensures.last)
    (c.in_ok-push_front.ensures.items ∙ ap (λ t. c.repeated.result ∷ t) more) refl
