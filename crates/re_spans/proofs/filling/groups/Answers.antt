use Rattle.re_syntax.specs.Tree.{tree}
use Rattle.re_spans.proofs.Grouped.{groups_are}
use Rattle.re_spans.proofs.filling.groups.Goals as goal

pub returns-clause-value : goal.returns-clause-value
returns-clause-value g c = groups_are (tree c.args.re.now) (g.T.Letters.letters c.args.text.now) c.args.span
    c.in_ok-all.all c.in_ok-all.ensures
