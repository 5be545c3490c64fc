use Rattle.std.proofs.Common.{◌≡◌, ◌<◌, sym, ap, subst, ◌∙◌, map, length, List, ℕ, ◌∷◌, [], ◌++◌, None, arith}
use Rattle.std.proofs.lemmas.List.{length-map}
use Rattle.indexmap.specs.IndexMap.{insert_entry}
use Rattle.std.specs.Str.{bytes_eq}
use Rattle.plumb_ports.specs.PortList.{number_of, named}
use Rattle.plumb_ports.specs.Shown.{port_of, IsNamedBy}
use Rattle.plumb_ports.proofs.PortLemmas.{added-entry, still-added}
use Rattle.plumb_ports.proofs.port_map.PortMap.add.Goals as goal

pub invariant_of-self-2 : goal.invariant_of-self-2
invariant_of-self-2 c =
    let name : c.in_ok-key.key.items ≡ c.args.name.now = c.in_ok-key.ensures.items in
    let none : number_of (map port_of c.self.inside.by_name.entries) c.in_ok-key.key.items ≡ None =
    ap (number_of (map port_of c.self.inside.by_name.entries)) name
    ∙ ap (λ ps. number_of ps c.args.name.now) c.self.view_is ∙ c.requires.new_name
    in
    let entries : map port_of c.insert.new.self.entries ≡ map port_of c.self.inside.by_name.entries
    ++ named c.args.name.now ∷ [] =
    ap (map port_of) c.in_ok-insert.ensures.entries
    ∙ ap (λ (l : List (List ℕ)). map port_of (insert_entry (λ x y. bytes_eq x.items y.items)
    c.self.inside.by_name.entries c.in_ok-key.key l)) c.new.ensures
    ∙ added-entry c.self.inside.by_name.entries c.in_ok-key.key none
    ∙ ap (λ n. map port_of c.self.inside.by_name.entries ++ named n ∷ []) name
    in
    let few : length c.self.inside.by_name.entries < 65536 = omega (
      arith,
      length-map c.self.inside.by_name.entries port_of,
      ap length c.self.view_is,
      c.requires.few,
    ) in
    let pushed : c.push_reserved.new.self.items ≡ c.self.inside.names.items ++ c.args.name.now ∷ [] =
    c.push_reserved.ensures.items
    ∙ ap (λ (ns : List (List ℕ)). ns ++ c.in_ok-copy.copy ∷ []) c.reserve.ensures.items
    ∙ ap (λ (n : List ℕ). c.self.inside.names.items ++ n ∷ []) c.in_ok-copy.ensures
    in
    subst (λ (ns : List (List ℕ)). IsNamedBy ns c.insert.new.self.entries) (sym pushed)
    (still-added c.self.inside.names.items c.self.inside.by_name.entries c.insert.new.self.entries c.args.name.now
    entries few c.requires.named_well c.self.invariant)

pub returns-clause-ok : goal.returns-clause-ok
returns-clause-ok c =
    let name : c.in_ok-key.key.items ≡ c.args.name.now = c.in_ok-key.ensures.items in
    let none : number_of (map port_of c.self.inside.by_name.entries) c.in_ok-key.key.items ≡ None =
    ap (number_of (map port_of c.self.inside.by_name.entries)) name
    ∙ ap (λ ps. number_of ps c.args.name.now) c.self.view_is ∙ c.requires.new_name
    in
    rw (← c.self.view_is)
    (ap (map port_of) c.in_ok-insert.ensures.entries
    ∙ ap (λ (l : List (List ℕ)). map port_of (insert_entry (λ x y. bytes_eq x.items y.items)
    c.self.inside.by_name.entries c.in_ok-key.key l)) c.new.ensures
    ∙ added-entry c.self.inside.by_name.entries c.in_ok-key.key none
    ∙ ap (λ n. map port_of c.self.inside.by_name.entries ++ named n ∷ []) name)
