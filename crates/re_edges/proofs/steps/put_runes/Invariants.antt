use Rattle.std.proofs.Common.{◌≡◌}
use Rattle.re_syntax.specs.Tree.{tree}
use Rattle.re_edges.specs.Edges.{may_be_null, with_runes}
use Rattle.re_edges.specs.Steps.{put_by, weight}
use Rattle.re_edges.proofs.steps.put_runes.Given as goal

abbrev pub invariant-steps : goal.invariant-steps
invariant-steps l = put_by l.side l.rest.items l.set l.null ≡ record
    { runes = with_runes l.side (tree l.re) l.fn.set; null = may_be_null (tree l.re) }

abbrev pub decreases-steps : goal.decreases-steps
decreases-steps l = weight l.rest.items
