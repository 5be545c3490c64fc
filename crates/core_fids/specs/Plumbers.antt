-- What messages see of the plumber.
use Rattle.std.specs.Prelude.{ℕ, List}
use Rattle.core_stores.specs.Stores.{RuleState}
use Rattle.plumb_ports.specs.PortList.{names_of}
use Rattle.plumb_ports.specs.PortsState.{PortsState}

-- the names of the ports, in first-seen order; the accepted rules; and how many openings of ports were ever made
pub record Plumber : Type 0 where
  pub names : List (List ℕ)
  pub text : List ℕ
  pub joined : ℕ

-- what the messages see of the rules and the ports
abbrev pub plumber_of : RuleState → PortsState → Plumber
plumber_of rules ports = record { names = names_of ports.ports; text = rules.text; joined = ports.joined }
