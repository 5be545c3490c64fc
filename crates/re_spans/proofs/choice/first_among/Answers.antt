use Rattle.re_syntax.specs.Tree.{tree}
use Rattle.re_spans.proofs.Chosen.{found_first, firsts_between}
use Rattle.re_spans.proofs.choice.first_among.Goals as goal

pub returns-clause-value : goal.returns-clause-value
returns-clause-value g c =
    found_first (tree c.args.re.now) (g.T.Letters.letters c.args.text.now) c.args.bounds.low c.args.bounds.high
    c.args.bounds.no_null c.in_ok-found.found c.in_ok-found.ensures.found c.in_ok-found.ensures.none

pub returns-clause-inside : goal.returns-clause-inside
returns-clause-inside g c =
    firsts_between (tree c.args.re.now) (g.T.Letters.letters c.args.text.now) c.args.bounds.low c.args.bounds.high
    c.args.bounds.no_null c.in_ok-found.found c.in_ok-found.ensures.found
