-- The route of a message: the rules of a set in order, and the first set that holds.
use Rattle.std.specs.Prelude.{ℕ, ◌==◌, List, [], ◌∷◌, length, Option, Some, None, if◌then◌else◌}
use Rattle.plumb_msg.specs.Spelling.{can_spell}
use Rattle.plumb_msg.specs.declared.message.PlumbMsg.{PlumbMsg}
use Rattle.rule_syntax.specs.declared.rule.Rule.{Rule}
use Rattle.plumb_rules.specs.Verbs.{Nodes, rule_done}
use Rattle.plumb_rules.specs.declared.answer.Route.{Route}
use Rattle.plumb_rules.specs.declared.answer.Way.TheVariants.{Port}
use Rattle.plumb_rules.specs.declared.state.State.{State}

module _ {A B : Type 0} where
  abbrev pub and_then : Option A → (A → Option B) → Option B
  and_then None go = None
  and_then (Some a) go = go a

module _ {A : Type 0} where
  abbrev pub or_else : Option A → Option A → Option A
  or_else None other = other
  or_else (Some a) other = Some a

-- before the first rule of a set
abbrev pub begun : PlumbMsg → State
begun m = record { msg = m; matched = None; file = None; dir = None; port = None; way = Port }

-- a state whose message can be spelled
abbrev pub spelled : State → Option State
spelled s = if can_spell s.msg then Some s else None

-- a rule that leaves a message which can't be spelled doesn't hold
abbrev pub rule_holds : Nodes → State → Rule → Option State
rule_holds tree s r = and_then (rule_done tree s r) spelled

-- the rules of a set in order
unfoldable pub rules_hold : Nodes → State → List Rule → Option State
rules_hold tree s [] = Some s
rules_hold tree s (r ∷ rules) = and_then (rule_holds tree s r) (λ t. rules_hold tree t rules)

-- with the port as dst, if there is one
abbrev pub with_dst : PlumbMsg → Option (List ℕ) → PlumbMsg
with_dst m None = m
with_dst m (Some port) = record m { dst = port }

abbrev pub route_in : State → Route
route_in s = record { port = s.port; way = s.way; msg = with_dst s.msg s.port }

-- the route of a state, where the message that it delivers can be spelled
abbrev pub route_at : State → Option Route
route_at s = if can_spell (with_dst s.msg s.port) then Some (route_in s) else None

-- the route by one set
abbrev pub set_route : Nodes → PlumbMsg → List Rule → Option Route
set_route tree m rules = and_then (rules_hold tree (begun m) rules) route_at

-- the route by the first set that holds
unfoldable pub sets_route : Nodes → PlumbMsg → List (List Rule) → Option Route
sets_route tree m [] = None
sets_route tree m (rules ∷ sets) = or_else (set_route tree m rules) (sets_route tree m sets)

-- the route to the port that the message names itself
abbrev pub own_route : PlumbMsg → Option Route
own_route m = if length m.dst == 0 then None else Some (record { port = Some m.dst; way = Port; msg = m })

-- no set holds for a message that can't be spelled
abbrev pub rules_route : Nodes → PlumbMsg → List (List Rule) → Option Route
rules_route tree m sets = if can_spell m then sets_route tree m sets else None

-- the route of a message: by the first set that holds, or else to the port that it names
abbrev pub route_of : Nodes → List (List Rule) → PlumbMsg → Option Route
route_of tree sets m = or_else (rules_route tree m sets) (own_route m)
