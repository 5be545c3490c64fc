-- Routes of messages that can be written.
use Rattle.std.proofs.Common.{◌≡◌, true, List, Option, Some, None, sym}
use Rattle.std.specs.Prelude.{IfSome}
use Rattle.plumb_msg.specs.Spelling.{can_spell}
use Rattle.plumb_msg.specs.declared.message.PlumbMsg.{PlumbMsg}
use Rattle.rule_syntax.specs.declared.rule.Rule.{Rule}
use Rattle.plumb_rules.specs.Laws.{SpelledStaysSo}
use Rattle.plumb_rules.specs.Routes.{route_of}
use Rattle.plumb_rules.specs.Verbs.{Nodes}
use Rattle.plumb_rules.specs.declared.answer.Route.{Route}
use Rattle.core_plumb.specs.Routing.{IsSpelled}

pub stays_spelled : SpelledStaysSo → (tree : Nodes) (sets : List (List Rule)) (m : PlumbMsg) (found : Option Route)
    → can_spell m ≡ true → found ≡ route_of tree sets m → IfSome found IsSpelled
stays_spelled law tree sets m None h k = tt
stays_spelled law tree sets m (Some route) h k = law tree sets m route h (sym k)

pub ruleset spelled = (stays_spelled)
