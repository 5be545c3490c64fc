-- Rules and sets, one further.
use Rattle.std.proofs.Common.{◌≡◌, ℕ, ◌+◌, ◌<◌, List, [], ◌∷◌, ◌++◌, length, get_or, take, refl, ap, ◌∙◌, append_assoc}
use Rattle.std.specs.List.{flat_map}
use Rattle.std.proofs.lemmas.Grind.{flat_map-append}
use Rattle.std.proofs.lemmas.List.{append-nil, take_more}
use Rattle.rule_syntax.specs.declared.rule.Rule.{Rule}
use Rattle.rule_syntax.specs.Naming.{port_of, set_ports, ports_of}

pub set_more : (rules : List Rule) (i : ℕ) (r : Rule) → i < length rules
    → set_ports (take (i + 1) rules) ≡ set_ports (take i rules) ++ port_of (get_or rules i r)
set_more rules i r h =
    ap set_ports (take_more rules i r h) ∙ flat_map-append port_of (take i rules) (get_or rules i r ∷ [])
    ∙ ap (λ (l : List (List ℕ)). set_ports (take i rules) ++ l) (append-nil (port_of (get_or rules i r)))

pub sets_more : (sets : List (List Rule)) (i : ℕ) (s : List Rule) → i < length sets
    → ports_of (take (i + 1) sets) ≡ ports_of (take i sets) ++ set_ports (get_or sets i s)
sets_more sets i s h =
    ap ports_of (take_more sets i s h) ∙ flat_map-append set_ports (take i sets) (get_or sets i s ∷ [])
    ∙ ap (λ (l : List (List ℕ)). ports_of (take i sets) ++ l) (append-nil (set_ports (get_or sets i s)))

pub ruleset rules = (set_more, append-nil, append_assoc)

pub ruleset sets = (sets_more, append-nil, append_assoc)
