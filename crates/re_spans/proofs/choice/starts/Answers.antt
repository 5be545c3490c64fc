use Rattle.re_syntax.specs.Tree.{tree}
use Rattle.re_syntax.specs.Match.{Matches}
use Rattle.re_spans.proofs.Ways.{Matches-on}
use Rattle.re_spans.proofs.Choosing.{all_starts}
use Rattle.re_spans.proofs.choice.starts.Goals as goal

pub returns-clause-starts : goal.returns-clause-starts
returns-clause-starts g c =
    let text = g.T.Letters.letters c.args.text.now in
    all_starts (Matches (tree c.args.re.now) text) c.args.from c.args.end c.in_ok-set.set
    (Matches-on (tree c.args.re.now) text) c.requires.order (rw c.in_ok-ends.ensures at c.in_ok-set.ensures.places)
