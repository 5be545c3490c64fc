use Rattle.std.proofs.Common.{◌≡◌, ◌+◌, ◌-◌, suc, drop, None, arith, ap, sym, subst, ◌∙◌}
use Rattle.event_book.specs.Finding.{last_from, is_open_fit}
use Rattle.event_book.proofs.ShownLemmas.{last-at}
use Rattle.event_book.proofs.finding.last_open_fit.Goals as goal

pub returns-then-is_open_fit : goal.returns-then-is_open_fit
returns-then-is_open_fit c =
    let whole : c.from_end.rest ≡ c.from_end.rest - 1 + 1 = omega (arith, c.from_end-test.true) in
    let after : c.from_end.rest ≡ suc (c.from_end.rest - 1) = omega (arith, c.from_end-test.true) in
    let none =
    subst (λ n. last_from (is_open_fit c.args.message.now) (suc (c.from_end.rest - 1 + 1))
    (drop n c.args.all.now) ≡ None) after
    (subst (λ n. last_from (is_open_fit c.args.message.now) (suc n) (drop c.from_end.rest c.args.all.now) ≡ None) whole
    c.from_end.invariant.none)
    in
    sym (last-at (is_open_fit c.args.message.now) 1 (c.from_end.rest - 1) (c.from_end.rest - 1 + 1) c.args.all.now
    c.index-all-rest.result (omega (arith, c.from_end-test.true, c.from_end.invariant.within)) (omega arith) none
    (ap (is_open_fit c.args.message.now) (sym c.index-all-rest.is) ∙ sym c.is_open_fit.ensures
    ∙ c.if-is_open_fit.true))
