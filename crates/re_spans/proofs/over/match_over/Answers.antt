use Rattle.re_syntax.specs.Tree.{tree}
use Rattle.re_spans.proofs.Around.{found_over}
use Rattle.re_spans.proofs.over.match_over.Goals as goal

pub returns-clause-value : goal.returns-clause-value
returns-clause-value g c =
    found_over (tree c.args.re.now) (g.T.Letters.letters c.args.text.now) c.args.at c.in_ok-found.found
    c.in_ok-found.ensures.found c.in_ok-found.ensures.none
