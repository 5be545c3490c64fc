use Rattle.std.proofs.Common.{sym, ◌∙◌}
use Rattle.std.specs.Prelude.{false}
use Rattle.re_machine.specs.Listed.{tree_of}
use Rattle.re_machine.specs.Contexts.{kind_of}
use Rattle.re_machine.proofs.Building.{same_context, four_contexts}
use Rattle.re_machine.proofs.contexts.Contexts.build.Goals as goal

pub returns-then-not-has_anchor : goal.returns-then-not-has_anchor
returns-then-not-has_anchor g c = λ x.
    same_context g.S.LetterSet.bits (tree_of c.args.nodes.now) (kind_of false false) x c.in_ok-inside.inside
    (sym c.has_anchor.ensures ∙ c.if-not-has_anchor.true) (rw c.here.ensures at c.in_ok-inside.ensures)

pub returns : goal.returns
returns g c =
    four_contexts g.S.LetterSet.bits (tree_of c.args.nodes.now) c.in_ok-inside.inside c.in_ok-starts.starts
    c.in_ok-ends.ends c.in_ok-empty.empty (rw c.here.ensures at c.in_ok-inside.ensures)
    (rw c.here-2.ensures at c.in_ok-starts.ensures) (rw c.here-3.ensures at c.in_ok-ends.ensures)
    (rw c.here-4.ensures at c.in_ok-empty.ensures)
