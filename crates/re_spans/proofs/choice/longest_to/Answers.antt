use Rattle.re_syntax.specs.Tree.{tree}
use Rattle.re_syntax.specs.Match.{Matches}
use Rattle.re_spans.proofs.Ways.{Matches-on}
use Rattle.re_spans.proofs.Choosing.{longest_to_is, longest_to_none}
use Rattle.re_spans.proofs.choice.longest_to.Goals as goal

pub returns-in-Some-clause-some : goal.returns-in-Some-clause-some
returns-in-Some-clause-some g c =
    let text = g.T.Letters.letters c.args.text.now in
    let most = rw (c.in-Some.is, c.is_at.ensures) at c.in_ok-found.ensures.some in
    longest_to_is (Matches (tree c.args.re.now) text) (Matches-on (tree c.args.re.now) text) c.args.no_null c.args.low
    c.args.j c.requires.order c.in-Some.turns most

pub returns-in-None-clause-none : goal.returns-in-None-clause-none
returns-in-None-clause-none g c =
    let text = g.T.Letters.letters c.args.text.now in
    let none = rw (c.in-None.is, c.is_at.ensures) at c.in_ok-found.ensures.none in
    longest_to_none (Matches (tree c.args.re.now) text) (Matches-on (tree c.args.re.now) text) c.args.no_null c.args.low
    c.args.j c.requires.order none
