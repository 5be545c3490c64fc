use Rattle.re_syntax.specs.Tree.{tree}
use Rattle.re_syntax.specs.Match.{Matches}
use Rattle.re_spans.proofs.Choosing.{ends_there, no_end_there}
use Rattle.re_spans.proofs.choice.matches_span.Goals as goal

pub returns-in-Some : goal.returns-in-Some
returns-in-Some g c =
    let R = Matches (tree c.args.re.now) (g.T.Letters.letters c.args.text.now) in
    ends_there R c.args.i c.args.j c.in-Some.end (rw c.in-Some.is at c.in_ok-found.ensures.some)

pub returns-in-None : goal.returns-in-None
returns-in-None g c =
    let R = Matches (tree c.args.re.now) (g.T.Letters.letters c.args.text.now) in
    (λ h. absurd cc, λ r. absurd (no_end_there R c.args.i c.args.j (rw c.in-None.is at c.in_ok-found.ensures.none) r))
