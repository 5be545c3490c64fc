use Rattle.std.proofs.Common.{◌<◌, ◌^◌, sym, ◌∙◌, arith}
use Rattle.std.proofs.lemmas.List.Elements.{All-from_get_or}
use Rattle.acme_tree.proofs.Named.{windows_named, no_window_named}
use Rattle.acme_tree.proofs.walk.window_named.Goals as goal

pub returns-in-Some : goal.returns-in-Some
returns-in-Some c = c.numbered.ensures ∙ windows_named c.args.name.now c.in-Some.number c.args.windows.now (omega arith)
    (All-from_get_or (λ w. w < 2 ^ 32) c.args.windows.now 0 (λ i lt. omega (arith, c.type_inv.windows i)))
    c.in-Some.ensures.some

pub returns-in-None : goal.returns-in-None
returns-in-None c = sym (no_window_named c.args.name.now c.args.windows.now
    (All-from_get_or (λ w. w < 2 ^ 32) c.args.windows.now 0 (λ i lt. omega (arith, c.type_inv.windows i)))
    c.in-None.ensures.none)
