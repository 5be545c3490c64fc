use Rattle.re_syntax.specs.Tree.{tree}
use Rattle.re_syntax.specs.Match.{Matches}
use Rattle.re_spans.proofs.Ways.{Matches-on}
use Rattle.re_spans.proofs.Choosing.{all_ends}
use Rattle.re_spans.proofs.choice.ends.Goals as goal

pub returns-clause-ends : goal.returns-clause-ends
returns-clause-ends g c =
    let text = g.T.Letters.letters c.args.text.now in
    all_ends (Matches (tree c.args.re.now) text) c.args.start c.args.to c.in_ok-set.set
    (Matches-on (tree c.args.re.now) text) c.requires.order (rw c.in_ok-starts.ensures at
    c.in_ok-set.ensures.places)
