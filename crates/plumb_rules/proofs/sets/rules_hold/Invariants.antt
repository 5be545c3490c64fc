use Rattle.std.proofs.Common.{◌≡◌, true, drop}
use Rattle.plumb_msg.specs.Spelling.{can_spell}
use Rattle.plumb_rules.specs.Routes.{rules_hold}
use Rattle.plumb_rules.proofs.sets.rules_hold.Given as goal

abbrev pub invariant-loop-rule : goal.invariant-loop-rule
invariant-loop-rule l =
    (can_spell l.state.msg ≡ true) × (rules_hold l.tree.present l.state
    (drop l.rule-index l.rules) ≡ rules_hold l.tree.present l.fn.state l.rules)
