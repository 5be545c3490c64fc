use Rattle.std.proofs.Common.{ℕ, subst, sym}
use Rattle.am_slots.specs.Slots.{HasGiven, HasRisenBy}
use Rattle.am_slots.proofs.slots.serve_slots.Goals as goal

pub returns-clause-risen : goal.returns-clause-risen
returns-clause-risen g c =
    subst (λ (n : ℕ). HasRisenBy n (g.H.Host.told c.args.host.now).faults
    (g.H.Host.told c.bind_all-bound.new.host).faults)
    (sym c.serve_bound.ensures.unbound) c.bind_all-bound.ensures.risen

pub returns-clause-given : goal.returns-clause-given
returns-clause-given g c =
    subst (λ (n : ℕ). HasGiven c.args.service.now.clients n (g.H.Host.told c.args.host.now).given
    (g.H.Host.told c.bind_all-bound.new.host).given)
    (sym c.serve_bound.ensures.unbound) c.bind_all-bound.ensures.given
