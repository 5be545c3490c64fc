use Rattle.std.proofs.Common.{List, ℕ, rules, ap, ◌∙◌}
use Rattle.std.specs.Prelude.{position}
use Rattle.std.specs.Option.{option_map}
use Rattle.std.specs.Str.{bytes_eq}
use Rattle.acme_tree.specs.declared.node.Node.TheVariants.{Port}
use Rattle.acme_tree.proofs.Named.{in_plumber_rest}
use Rattle.acme_tree.proofs.walk.in_plumber.Goals as goal

pub returns-else-eq-2 : goal.returns-else-eq-2
returns-else-eq-2 c =
    in_plumber_rest c.args.ports.now c.args.name.now c.to_port.result (search rules) (search rules)
    (c.to_port.ensures ∙ ap (option_map (λ k. Port k)) c.port_named.ensures
    ∙ ap (λ (ports : List (List ℕ)). option_map (λ k. Port k) (position (λ port. bytes_eq c.args.name.now port)
    ports)) c.numbered_ports.ensures.ports)
