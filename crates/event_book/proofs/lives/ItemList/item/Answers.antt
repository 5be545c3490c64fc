use Rattle.std.proofs.Common.{◌-◌, ◌<◌, ◌≤◌, length, get_or, Some, List, ap, sym, subst, arith, ◌∙◌}
use Rattle.std.specs.Option.{option_map}
use Rattle.event_book.specs.declared.lives.Recorded.{Recorded}
use Rattle.event_book.proofs.ShownLemmas.{item_at, get_some, get_none}
use Rattle.event_book.proofs.lives.ItemList.item.Goals as goal

pub returns-in-Some : goal.returns-in-Some
returns-in-Some c =
    let look = c.in-Some.ensures.lookup in
    let one = look.1 ∙ ap (λ es. get_or es (c.args.number - 1) c.in-Some.recorded.now) c.deref.ensures.value in
    let within = subst (λ (es : List Recorded). c.args.number - 1 < length es) c.deref.ensures.value look.3.0 in
    rw (← c.self.view_is)
    (ap (λ (e : Recorded). Some e.item) one
    ∙ ap (option_map (λ (e : Recorded). e.item)) (sym (get_some c.self.inside.all.items (c.args.number - 1)
    c.in-Some.recorded.now within))
    ∙ sym (item_at c.self.inside.settled c.args.number c.self.inside.all.items (omega (arith, c.if-number-eq0.false))))

pub returns-in-None : goal.returns-in-None
returns-in-None c =
    let look = c.in-None.ensures.lookup in
    let past = subst (λ (es : List Recorded). length es ≤ c.args.number - 1) c.deref.ensures.value look.3 in
    rw (← c.self.view_is)
    (ap (option_map (λ (e : Recorded). e.item)) (sym (get_none c.self.inside.all.items (c.args.number - 1) past))
    ∙ sym (item_at c.self.inside.settled c.args.number c.self.inside.all.items (omega (arith, c.if-number-eq0.false))))
