-- Which rules don't hold, whatever files there are. No public contract needs this.
use Rattle.std.specs.Prelude.{◌≡◌, None}
use Rattle.rule_syntax.specs.declared.rule.Rule.{Rule}
use Rattle.plumb_rules.specs.Verbs.{Nodes, rule_done}
use Rattle.plumb_rules.specs.declared.state.State.{State}

-- the rule doesn't hold in this state
abbrev pub IsRefused : State → Rule → Type 0
IsRefused s r = (tree : Nodes) → rule_done tree s r ≡ None
