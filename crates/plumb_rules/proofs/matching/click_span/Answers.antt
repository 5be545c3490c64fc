use Rattle.re_syntax.specs.Tree.{tree}
use Rattle.plumb_rules.proofs.Expressions.{over_spans}
use Rattle.plumb_rules.proofs.matching.click_span.Goals as goal

pub returns-clause-inside : goal.returns-clause-inside
returns-clause-inside c = over_spans (tree c.args.re.now) c.args.text.now c.args.at c.in_ok-found.found
    c.in_ok-found.ensures.found
