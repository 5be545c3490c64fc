-- Which set is taken, and what holds of its route.
use Rattle.std.proofs.Common.{◌≡◌, ℕ, ◌==◌, Bool, true, false, cond, List, [], ◌∷◌, ◌++◌, length, Option, Some, None}
use Rattle.std.proofs.Common.{refl, ap, sym, subst, ◌∙◌}
use Rattle.std.specs.List.{AllByRecursion}
use Rattle.plumb_msg.specs.Spelling.{can_spell}
use Rattle.plumb_msg.specs.declared.message.PlumbMsg.{PlumbMsg}
use Rattle.rule_syntax.specs.declared.rule.Rule.{Rule}
use Rattle.plumb_rules.specs.Laws.{FirstSetIsTaken, ElseToItsPort, PortIsDst, SpelledStaysSo}
use Rattle.plumb_rules.specs.Routes.{and_then, or_else, begun, rules_hold, with_dst, route_in, route_at, set_route}
use Rattle.plumb_rules.specs.Routes.{sets_route, own_route, rules_route, route_of}
use Rattle.plumb_rules.specs.Verbs.{Nodes}
use Rattle.plumb_rules.specs.declared.answer.Route.{Route}
use Rattle.plumb_rules.specs.declared.answer.Way.TheVariants.{Port}
use Rattle.plumb_rules.specs.declared.state.State.{State}
use Rattle.plumb_rules.proofs.Further.{sets-cons}

-- ---- the first set that holds

sets_first : (tree : Nodes) (m : PlumbMsg) (before after : List (List Rule)) (rules : List Rule) (found : Route)
    → AllByRecursion (λ s. set_route tree m s ≡ None) before → set_route tree m rules ≡ Some found
    → sets_route tree m (before ++ rules ∷ after) ≡ Some found
sets_first tree m [] after rules found h e = sets-cons tree m rules after
    ∙ ap (λ (o : Option Route). or_else o (sets_route tree m after)) e
sets_first tree m (b ∷ before) after rules found h e =
    sets-cons tree m b (before ++ rules ∷ after) ∙ ap (λ (o : Option Route). or_else o
    (sets_route tree m (before ++ rules ∷ after))) h.0 ∙ sets_first tree m before after rules found h.1 e

pub first_set_taken : FirstSetIsTaken
first_set_taken tree m before after rules found spells h e =
    ap (λ (b : Bool). or_else (cond b (sets_route tree m (before ++ rules ∷ after)) None) (own_route m)) spells
    ∙ ap (λ (o : Option Route). or_else o (own_route m)) (sets_first tree m before after rules found h e)

sets_none : (tree : Nodes) (m : PlumbMsg) (sets : List (List Rule))
    → AllByRecursion (λ s. set_route tree m s ≡ None) sets → sets_route tree m sets ≡ None
unfolding sets_route
sets_none tree m [] h = refl
sets_none tree m (rules ∷ sets) h = ap (λ (o : Option Route). or_else o (sets_route tree m sets)) h.0
    ∙ sets_none tree m sets h.1

either_none : (b : Bool) (o : Option Route) → o ≡ None → cond b o None ≡ None
either_none true o e = e
either_none false o e = refl

pub else_own : ElseToItsPort
else_own tree m sets h = ap (λ (o : Option Route). or_else o (own_route m))
    (either_none (can_spell m) (sets_route tree m sets) (sets_none tree m sets h))

-- ---- what holds of each route

pub same_if : {A : Type 0} (b : Bool) (a c : A) → cond b (Some a) None ≡ Some c → (b ≡ true) × (a ≡ c)
same_if true a c e = (refl, cc)
same_if false a c e = absurd cc

pub same_else : {A : Type 0} (b : Bool) (a c : A) → cond b None (Some a) ≡ Some c → a ≡ c
same_else true a c e = absurd cc
same_else false a c e = cc

pub set_has : (tree : Nodes) (m : PlumbMsg) (rules : List Rule) (found : Route) → set_route tree m rules ≡ Some found
    → (s : State) × (rules_hold tree (begun m) rules ≡ Some s) × (route_at s ≡ Some found)
set_has tree m rules found e = of (rules_hold tree (begun m) rules) refl e
  where
    of : (o : Option State) → rules_hold tree (begun m) rules ≡ o → and_then o route_at ≡ Some found → (s : State)
        × (rules_hold tree (begun m) rules ≡ Some s) × (route_at s ≡ Some found)
    of None is h = absurd cc
    of (Some s) is h = (s, is, h)

sets_have : (tree : Nodes) (m : PlumbMsg) (sets : List (List Rule)) (found : Route)
    → sets_route tree m sets ≡ Some found → (s : State) × (route_at s ≡ Some found)
unfolding sets_route
sets_have tree m [] found e = absurd cc
sets_have tree m (rules ∷ sets) found e = of (set_route tree m rules) refl (sets_have tree m sets found) e
  where
    of : (o : Option Route) → set_route tree m rules ≡ o → (sets_route tree m sets ≡ Some found → (s : State)
        × (route_at s ≡ Some found)) → or_else o (sets_route tree m sets) ≡ Some found → (s : State)
        × (route_at s ≡ Some found)
    of None is later h = later h
    of (Some r) is later h = let s = set_has tree m rules found (is ∙ h) in (s.0, s.2)

-- what holds of the routes of states and of a message's own holds of all
route_has : (P : Route → Type 0) (tree : Nodes) (sets : List (List Rule)) (m : PlumbMsg) (found : Route)
    → ((s : State) → can_spell (with_dst s.msg s.port) ≡ true → P (route_in s))
    → P (record { port = Some m.dst; way = Port; msg = m }) → route_of tree sets m ≡ Some found → P found
route_has P tree sets m found at own e = of (can_spell m) e
  where
    by_own : own_route m ≡ Some found → P found
    by_own h = subst P (same_else (length m.dst == 0) (record { port = Some m.dst; way = Port; msg = m }) found h) own

    by_set : (s : State) → route_at s ≡ Some found → P found
    by_set s h = let both = same_if (can_spell (with_dst s.msg s.port)) (route_in s) found h in
        subst P both.1 (at s both.0)

    by_sets : (o : Option Route) → sets_route tree m sets ≡ o → or_else o (own_route m) ≡ Some found → P found
    by_sets None is h = by_own h
    by_sets (Some r) is h = let s = sets_have tree m sets found (is ∙ h) in by_set s.0 s.1

    of : (b : Bool) → or_else (cond b (sets_route tree m sets) None) (own_route m) ≡ Some found → P found
    of true h = by_sets (sets_route tree m sets) refl h
    of false h = by_own h

some_is : (a b : List ℕ) → Some a ≡ Some b → a ≡ b
some_is a b e = cc

pub port_is_dst : PortIsDst
port_is_dst tree sets m found port e p =
    route_has (λ f. (port : List ℕ) → f.port ≡ Some port → f.msg.dst ≡ port) tree sets m found
    (λ s spells name h. ap (λ (o : Option (List ℕ)). (with_dst s.msg o).dst) h)
    (λ name h. some_is m.dst name h)
    e port p

pub spelled_stays : SpelledStaysSo
spelled_stays tree sets m found spells e = route_has (λ f. can_spell f.msg ≡ true) tree sets m found (λ s h. h) spells e
