use Rattle.std.proofs.Common.{List, Option}
use Rattle.am_text.specs.declared.range.Range.{Range}
use Rattle.re_syntax.specs.Tree.{tree}
use Rattle.re_syntax.specs.Groups.{Sets}
use Rattle.re_spans.specs.Tasks.{AreSet, AreMatches, weight}
use Rattle.re_spans.proofs.filling.fill.Given as goal

abbrev pub invariant-tasks : goal.invariant-tasks
invariant-tasks g l =
    let t = g.T.Letters.letters l.text in
    record {
      matches : AreMatches t l.rest.items;
      sets : (new : List (Option Range)) → AreSet t l.rest.items l.groups new
          → Sets (tree l.fn.re) t l.fn.found.q0 l.fn.found.q1 l.fn.groups new;
    }

abbrev pub decreases-tasks : goal.decreases-tasks
decreases-tasks g l = weight l.rest.items
