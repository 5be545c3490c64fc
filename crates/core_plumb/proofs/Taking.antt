-- Ports that take what is delivered.
use Rattle.std.proofs.Common.{◌≡◌, ℕ, Bool, true, false, cond, List, Option, Some, None, refl, sym, subst}
use Rattle.plumb_rules.specs.declared.answer.Way.{Way}
use Rattle.plumb_rules.specs.declared.answer.Way.TheVariants as way
use Rattle.plumb_ports.specs.PortList.{number_of}
use Rattle.plumb_ports.specs.PortsState.{PortsState, is_open, is_full, refusal, refusal_on}
use Rattle.plumb_ports.specs.declared.fault.PortFault.TheVariants as port
use Rattle.core_plumb.specs.declared.refusal.PlumbRefusal.TheVariants as plumb
use Rattle.core_plumb.specs.Routing.{numbered_refusal}
use Rattle.core_plumb.specs.Delivering.{is_open_at, is_open_named, is_client}

open_on : (n : Option ℕ) (p : PortsState) → is_open_at p n ≡ true → refusal_on n p false ≡ None
open_on None p h = absurd cc
open_on (Some n) p h = rw h refl

-- a port with openings takes any message
pub open_takes : (p : PortsState) (name : List ℕ) → is_open_named p name ≡ true → refusal p name false ≡ None
open_takes p name h = open_on (number_of p.ports name) p h

-- the two refusals of a port without openings come together
closed_with : (opened full : Bool) → opened ≡ false → cond opened None
    (cond full (Some plumb.PortQueueFull) None) ≡ None → cond opened None (cond full (Some port.Full) None) ≡ None
closed_with true full h k = absurd cc
closed_with false true h k = absurd cc
closed_with false false h k = refl

kept_on : (n : Option ℕ) (p : PortsState) (w : Way) → is_client w ≡ true → is_open_at p n ≡ false → numbered_refusal w n
    p ≡ None → refusal_on n p true ≡ None
kept_on n p way.Port c h k = absurd cc
kept_on n p (way.Start command) c h k = absurd cc
kept_on None p (way.Client command) c h k = absurd cc
kept_on (Some n) p (way.Client command) c h k = closed_with (is_open p n) (is_full p n) h k

-- one without openings keeps a message that isn't refused, whatever else was done since, while the ports stayed
pub closed_takes : (p q : PortsState) (name : List ℕ) (w : Way) → q ≡ p → is_client w ≡ true → is_open_named p
    name ≡ false
    → numbered_refusal w (number_of p.ports name) p ≡ None → refusal q name true ≡ None
closed_takes p q name w same c h k = subst (λ (x : PortsState). refusal x name true ≡ None) (sym same)
    (kept_on (number_of p.ports name) p w c h k)
