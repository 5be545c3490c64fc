-- What holds of all patterns and routes.
use Rattle.std.specs.Prelude.{◌≡◌, ◌↔◌, ℕ, Bool, true, false, List, ◌∷◌, ◌++◌, Option, Some, None}
use Rattle.std.specs.List.{list_any, AllByRecursion}
use Rattle.plumb_msg.specs.Spelling.{can_spell}
use Rattle.plumb_msg.specs.declared.message.PlumbMsg.{PlumbMsg}
use Rattle.re_syntax.specs.Grammar.{IsExpression}
use Rattle.re_syntax.specs.Tree.{Tree}
use Rattle.rule_syntax.specs.declared.rule.Field.TheVariants.{Src, Dst, Wdir, Sort, Data}
use Rattle.rule_syntax.specs.declared.rule.Rule.{Rule}
use Rattle.rule_syntax.specs.declared.rule.Verb.{Verb}
use Rattle.rule_syntax.specs.declared.rule.Verb.TheVariants as verb
use Rattle.plumb_rules.specs.Attributes.{click_of}
use Rattle.plumb_rules.specs.declared.attributes.Click.TheVariants.{Absent}
use Rattle.plumb_rules.specs.Patterns.{expression_of}
use Rattle.plumb_rules.specs.Routes.{set_route, own_route, route_of}
use Rattle.plumb_rules.specs.Verbs.{Nodes}
use Rattle.plumb_rules.specs.declared.answer.Route.{Route}

-- a text has a tree exactly where it is an expression with that tree
abbrev pub TreesAreThose : Type 0
TreesAreThose = (text : List ℕ) (r : Tree) → (expression_of text ≡ Some r) ↔ IsExpression None text r

-- the first set that holds is taken, whatever follows it
abbrev pub FirstSetIsTaken : Type 0
FirstSetIsTaken =
    (tree : Nodes) (m : PlumbMsg) (before after : List (List Rule)) (rules : List Rule) (found : Route) →
    can_spell m ≡ true → AllByRecursion (λ s. set_route tree m s ≡ None) before → set_route tree m rules ≡ Some found →
    route_of tree (before ++ rules ∷ after) m ≡ Some found

-- where no set holds the message goes to the port that it names
abbrev pub ElseToItsPort : Type 0
ElseToItsPort =
    (tree : Nodes) (m : PlumbMsg) (sets : List (List Rule)) →
    AllByRecursion (λ s. set_route tree m s ≡ None) sets → route_of tree sets m ≡ own_route m

-- the message that is delivered to a port has it as dst
abbrev pub PortIsDst : Type 0
PortIsDst =
    (tree : Nodes) (sets : List (List Rule)) (m : PlumbMsg) (found : Route) (port : List ℕ) →
    route_of tree sets m ≡ Some found → found.port ≡ Some port → found.msg.dst ≡ port

-- a message that can be spelled is delivered as one that can
abbrev pub SpelledStaysSo : Type 0
SpelledStaysSo =
    (tree : Nodes) (sets : List (List Rule)) (m : PlumbMsg) (found : Route) →
    can_spell m ≡ true → route_of tree sets m ≡ Some found → can_spell found.msg ≡ true

-- whether a rule sets the data, or adds attributes, among them maybe a click
abbrev pub may_change_data : Verb → Bool
may_change_data (verb.Is f) = false
may_change_data (verb.Matches f) = false
may_change_data (verb.Set Src) = false
may_change_data (verb.Set Dst) = false
may_change_data (verb.Set Wdir) = false
may_change_data (verb.Set Sort) = false
may_change_data (verb.Set Data) = true
may_change_data verb.ArgIsFile = false
may_change_data verb.ArgIsDir = false
may_change_data verb.DataIsFile = false
may_change_data verb.DataIsDir = false
may_change_data verb.Add = true
may_change_data verb.Delete = false
may_change_data verb.To = false
may_change_data verb.Start = false
may_change_data verb.Client = false

-- data that no rule sets are delivered as they came, byte by byte, where there is no click
abbrev pub DataAreKept : Type 0
DataAreKept =
    (tree : Nodes) (m : PlumbMsg) (rules : List Rule) (found : Route) →
    click_of m.attrs ≡ Absent → list_any (λ r. may_change_data r.verb) rules ≡ false →
    set_route tree m rules ≡ Some found → found.msg.body ≡ m.body
