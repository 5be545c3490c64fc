-- The ports that rules name.
use Rattle.std.specs.Prelude.{ℕ, List, [], ◌∷◌, if◌then◌else◌}
use Rattle.std.specs.List.{flat_map}
use Rattle.am_text.specs.Utf8.{utf8}
use Rattle.rule_syntax.specs.Arguments.{runes_of}
use Rattle.rule_syntax.specs.Verbs.{is_to}
use Rattle.rule_syntax.specs.declared.rule.Rule.{Rule}

-- the port of a `plumb to`
abbrev pub port_of : Rule → List (List ℕ)
port_of r = if is_to r.verb then utf8 (runes_of r.argument) ∷ [] else []

-- the ports that the rules of a set name
abbrev pub set_ports : List Rule → List (List ℕ)
set_ports rules = flat_map port_of rules

-- the ports that sets name, in the order of their rules; one that is named twice stands there twice
abbrev pub ports_of : List (List Rule) → List (List ℕ)
ports_of sets = flat_map set_ports sets
