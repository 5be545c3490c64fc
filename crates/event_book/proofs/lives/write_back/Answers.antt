use Rattle.std.proofs.Common.{◌-◌, arith, ap, sym, subst, length, ◌∙◌}
use Rattle.event_book.specs.Lives.{back_life}
use Rattle.event_book.specs.Shown.{AreSettled, with_life_at}
use Rattle.event_book.specs.declared.lives.Recorded.{Recorded}
use Rattle.event_book.proofs.ShownLemmas.{wrote, not_wrote, settled-back, length-with_life_at}
use Rattle.event_book.proofs.lives.write_back.Goals as goal

pub returns-then-number-settled-clause-shown : goal.returns-then-number-settled-clause-shown
returns-then-number-settled-clause-shown c =
    not_wrote c.args.at c.args.settled c.args.number c.args.all.now.items (omega (arith, c.if-number-settled.true))

pub returns-clause-shown : goal.returns-clause-shown
returns-clause-shown c =
    let set = c.set_life.ensures ∙ ap (λ l. with_life_at l (c.args.number - 1) c.args.all.now.items)
    (c.back_life-life.ensures ∙ ap (λ (e : Recorded). back_life c.args.at e.life) c.index.ensures) in
    wrote c.args.at c.args.settled c.args.number c.args.all.now.items c.set_life.new.all.items c.index.result.now
    (omega (arith, c.if-number-eq0.false)) (omega (arith, c.if-number-settled.false)) c.requires set

pub returns-clause-ones : goal.returns-clause-ones
returns-clause-ones c =
    let set = c.set_life.ensures ∙ ap (λ l. with_life_at l (c.args.number - 1) c.args.all.now.items)
    (c.back_life-life.ensures ∙ ap (λ (e : Recorded). back_life c.args.at e.life) c.index.ensures) in
    λ h.
    subst (AreSettled c.args.settled) (sym set) (settled-back c.args.at c.args.settled (c.args.number - 1)
    c.args.all.now.items c.index.result.now h)

pub returns-clause-len : goal.returns-clause-len
returns-clause-len c = ap length c.set_life.ensures ∙ length-with_life_at c.back_life-life.result (c.args.number - 1)
    c.args.all.now.items
