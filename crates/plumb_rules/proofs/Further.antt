-- Lists, one member further.
use Rattle.std.proofs.Common.{◌≡◌, ℕ, suc, ◌+◌, ◌<◌, ◌≤◌, List, [], ◌∷◌, ◌++◌, length, get_or, take, drop, Option, Some}
use Rattle.std.proofs.Common.{None, refl, ap, sym, ◌∙◌, append_assoc, drop-cons, length-drop, add-one, arith}
use Rattle.std.proofs.lemmas.List.{append-nil, take_more}
use Rattle.plumb_msg.specs.declared.message.Attr.{Attr}
use Rattle.plumb_msg.specs.declared.message.PlumbMsg.{PlumbMsg}
use Rattle.rule_syntax.specs.declared.rule.Piece.{Piece}
use Rattle.rule_syntax.specs.declared.rule.Rule.{Rule}
use Rattle.plumb_rules.specs.Attributes.{with_attr, with_attrs}
use Rattle.plumb_rules.specs.Routes.{and_then, or_else, rule_holds, rules_hold, set_route, sets_route}
use Rattle.plumb_rules.specs.Texts.{piece_text, argument_text}
use Rattle.plumb_rules.specs.Verbs.{Nodes}
use Rattle.plumb_rules.specs.declared.answer.Route.{Route}
use Rattle.plumb_rules.specs.declared.state.State.{State}

-- ---- attributes

pub attrs_more : (attrs : List Attr) (i : ℕ) (a : Attr) → i < length attrs → take (i + 1) attrs ≡ take i attrs
    ++ get_or attrs i a ∷ []
attrs_more attrs i a h = take_more attrs i a h

pub ruleset attributes = (attrs_more)

pub with_attrs_more : (attrs more : List Attr) (i : ℕ) (a : Attr) → i < length more
    → with_attrs (with_attr attrs (get_or more i a)) (drop (i + 1) more) ≡ with_attrs attrs (drop i more)
with_attrs_more attrs more i a h = rw add-one (sym (ap (with_attrs attrs) (drop-cons more i a h)))

pub ruleset additions = (with_attrs_more)

-- ---- arguments

texts-append : (s : State) (xs ys : List Piece) → argument_text s (xs ++ ys) ≡ argument_text s xs ++ argument_text s ys
texts-append s [] ys = refl
texts-append s (p ∷ xs) ys = ap (λ (l : List ℕ). piece_text s p ++ l) (texts-append s xs ys)
    ∙ sym (append_assoc (piece_text s p) (argument_text s xs) (argument_text s ys))

pub texts_more : (s : State) (pieces : List Piece) (i : ℕ) (p : Piece) → i < length pieces
    → argument_text s (take (i + 1) pieces) ≡ argument_text s (take i pieces) ++ piece_text s (get_or pieces i p)
texts_more s pieces i p h =
    ap (argument_text s) (take_more pieces i p h) ∙ texts-append s (take i pieces) (get_or pieces i p ∷ [])
    ∙ ap (λ (l : List ℕ). argument_text s (take i pieces) ++ l) (append-nil (piece_text s (get_or pieces i p)))

pub ruleset arguments = (texts_more)

-- ---- rules

pub holds-cons : (tree : Nodes) (s : State) (r : Rule) (rules : List Rule)
    → rules_hold tree s (r ∷ rules) ≡ and_then (rule_holds tree s r) (λ t. rules_hold tree t rules)
unfolding rules_hold
holds-cons tree s r rules = refl

holds-drop : (tree : Nodes) (s : State) (rules : List Rule) (i : ℕ) (r : Rule) → i < length rules
    → rules_hold tree s (drop i rules) ≡ and_then (rule_holds tree s (get_or rules i r))
    (λ t. rules_hold tree t (drop (i + 1) rules))
holds-drop tree s rules i r h = rw add-one (ap (rules_hold tree s) (drop-cons rules i r h)
    ∙ holds-cons tree s (get_or rules i r) (drop (suc i) rules))

pub hold_more : (tree : Nodes) (s t : State) (rules : List Rule) (i : ℕ) (r : Rule) → i < length rules
    → Some t ≡ rule_holds tree s (get_or rules i r) → rules_hold tree t (drop (i + 1) rules) ≡ rules_hold tree s
    (drop i rules)
hold_more tree s t rules i r h e = ap (λ (o : Option State). and_then o (λ t. rules_hold tree t (drop (i + 1) rules))) e
    ∙ sym (holds-drop tree s rules i r h)

pub hold_stuck : (tree : Nodes) (s : State) (rules : List Rule) (i : ℕ) (r : Rule) → i < length rules
    → None ≡ rule_holds tree s (get_or rules i r) → rules_hold tree s (drop i rules) ≡ None
hold_stuck tree s rules i r h e = holds-drop tree s rules i r h ∙ sym
    (ap (λ (o : Option State). and_then o (λ t. rules_hold tree t (drop (i + 1) rules))) e)

hold-nil : (tree : Nodes) (s : State) (rules : List Rule) → length rules ≡ 0 → rules_hold tree s rules ≡ Some s
unfolding rules_hold
hold-nil tree s [] h = refl
hold-nil tree s (r ∷ rules) h = absurd (omega arith)

pub hold_end : (tree : Nodes) (s : State) (rules : List Rule) (i : ℕ) → length rules ≤ i
    → rules_hold tree s (drop i rules) ≡ Some s
hold_end tree s rules i h = hold-nil tree s (drop i rules) (omega (arith, length-drop i rules))

pub ruleset rules = (hold_more, hold_stuck, hold_end)

-- ---- sets

pub sets-cons : (tree : Nodes) (m : PlumbMsg) (rules : List Rule) (sets : List (List Rule))
    → sets_route tree m (rules ∷ sets) ≡ or_else (set_route tree m rules) (sets_route tree m sets)
unfolding sets_route
sets-cons tree m rules sets = refl

sets-drop : (tree : Nodes) (m : PlumbMsg) (sets : List (List Rule)) (i : ℕ) (rules : List Rule) → i < length sets
    → sets_route tree m (drop i sets) ≡ or_else (set_route tree m (get_or sets i rules))
    (sets_route tree m (drop (i + 1) sets))
sets-drop tree m sets i rules h = rw add-one (ap (sets_route tree m) (drop-cons sets i rules h)
    ∙ sets-cons tree m (get_or sets i rules) (drop (suc i) sets))

pub sets_more : (tree : Nodes) (m : PlumbMsg) (sets : List (List Rule)) (i : ℕ) (rules : List Rule) → i < length sets
    → None ≡ set_route tree m (get_or sets i rules) → sets_route tree m (drop (i + 1) sets) ≡ sets_route tree m
    (drop i sets)
sets_more tree m sets i rules h e = ap (λ (o : Option Route). or_else o (sets_route tree m (drop (i + 1) sets))) e
    ∙ sym (sets-drop tree m sets i rules h)

pub sets_found : (tree : Nodes) (m : PlumbMsg) (sets : List (List Rule)) (i : ℕ) (rules : List Rule) (found : Route)
    → i < length sets → Some found ≡ set_route tree m (get_or sets i rules)
    → sets_route tree m (drop i sets) ≡ Some found
sets_found tree m sets i rules found h e = sets-drop tree m sets i rules h
    ∙ sym (ap (λ (o : Option Route). or_else o (sets_route tree m (drop (i + 1) sets))) e)

sets-nil : (tree : Nodes) (m : PlumbMsg) (sets : List (List Rule)) → length sets ≡ 0 → sets_route tree m sets ≡ None
unfolding sets_route
sets-nil tree m [] h = refl
sets-nil tree m (rules ∷ sets) h = absurd (omega arith)

pub sets_end : (tree : Nodes) (m : PlumbMsg) (sets : List (List Rule)) (i : ℕ) → length sets ≤ i
    → sets_route tree m (drop i sets) ≡ None
sets_end tree m sets i h = sets-nil tree m (drop i sets) (omega (arith, length-drop i sets))

pub ruleset sets = (sets_more, sets_found, sets_end)
