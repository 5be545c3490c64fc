use Rattle.std.proofs.Common.{◌≡◌}
use Rattle.re_syntax.specs.Tree.{tree, nodes}
use Rattle.re_spans.specs.Shapes.{is_repeated}
use Rattle.re_spans.proofs.shapes.is_repeated.Given as goal

abbrev pub invariant-parts : goal.invariant-parts
invariant-parts l = is_repeated (tree l.part) ≡ is_repeated (tree l.re)

abbrev pub decreases-parts : goal.decreases-parts
decreases-parts l = nodes (tree l.part)
