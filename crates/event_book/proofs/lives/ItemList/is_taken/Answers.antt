use Rattle.std.proofs.Common.{arith, ap, sym, ◌∙◌}
use Rattle.event_book.specs.Lives.{is_taken}
use Rattle.event_book.specs.declared.lives.Recorded.{Recorded}
use Rattle.event_book.proofs.ShownLemmas.{taken_at, taken_past}
use Rattle.event_book.proofs.lives.ItemList.is_taken.Goals as goal

pub returns-then-number-self : goal.returns-then-number-self
returns-then-number-self c =
    rw (← c.self.view_is) (sym (taken_past c.self.inside.settled c.args.number c.self.inside.all.items
    (omega (arith, c.if-number-self.true))))

pub returns : goal.returns
returns c =
    rw (← c.self.view_is)
    (c.is_taken.ensures ∙ ap (λ (e : Recorded). is_taken e.life) c.index.ensures
    ∙ sym (taken_at c.self.inside.settled c.args.number c.self.inside.all.items c.index.result.now
    (omega (arith, c.if-number-eq0.false)) (omega (arith, c.if-number-self.false)) c.self.invariant.within))
