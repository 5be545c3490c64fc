use Rattle.std.proofs.Common.{sym, ap, ◌∙◌, arith}
use Rattle.std.specs.Str.{bytes_eq}
use Rattle.acme_tree.proofs.Named.{port_found, port_missing}
use Rattle.acme_tree.proofs.walk.port_named.Goals as goal

pub returns-then-eq : goal.returns-then-eq
returns-then-eq c =
    sym (port_found c.args.name.now c.args.ports.now c.loop-k.k c.index-ports-k.result c.loop-k-test.true
    c.index-ports-k.is (ap (λ p. bytes_eq c.args.name.now p) (sym c.as_slice.ensures) ∙ sym c.eq.ensures
    ∙ c.if-eq.true) c.loop-k.invariant)

pub returns : goal.returns
returns c = sym (port_missing c.args.name.now c.args.ports.now (λ j lt. c.loop-k.invariant j (omega arith)))
