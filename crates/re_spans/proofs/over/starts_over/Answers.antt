use Rattle.re_syntax.specs.Tree.{tree}
use Rattle.re_spans.proofs.Around.{all_over}
use Rattle.re_spans.proofs.over.starts_over.Goals as goal

pub returns-clause-starts : goal.returns-clause-starts
returns-clause-starts g c =
    all_over (tree c.args.re.now) (g.T.Letters.letters c.args.text.now) c.args.at c.in_ok-ends.ends c.in_ok-set.set
    c.in_ok-ends.ensures.low (rw c.len.ensures at c.in_ok-ends.ensures.past)
    (rw c.len.ensures at c.in_ok-ends.ensures.places) c.in_ok-set.ensures.places
