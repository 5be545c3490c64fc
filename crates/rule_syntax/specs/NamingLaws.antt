-- Laws of the ports that rules name.
use Rattle.std.specs.Prelude.{◌≡◌, ℕ, true, List, IfOk}
use Rattle.std.specs.List.{list_all}
use Rattle.rule_syntax.specs.Parsing.{rules_of}
use Rattle.rule_syntax.specs.Verbs.{is_port_name}
use Rattle.rule_syntax.specs.declared.rule.Var.{Var}
use Rattle.rule_syntax.specs.Naming.{ports_of}

-- Each port that rules name has a name that a port can have.
abbrev pub NamesArePorts : Type 0
NamesArePorts = (text : List ℕ) (known : List Var) → IfOk (rules_of text known)
    (λ read. list_all is_port_name (ports_of read.0) ≡ true)
