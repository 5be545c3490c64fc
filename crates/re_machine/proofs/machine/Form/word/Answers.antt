use Rattle.re_syntax.specs.Tree.{tree}
use Rattle.re_sets.proofs.Mirrored.{read_on, read_back}
use Rattle.re_machine.proofs.machine.Form.word.Goals as goal

pub returns : goal.returns
returns c = (
  (c.in_ok-on.ensures.whole, rw (read_on (tree c.args.re.now)) at c.in_ok-on.ensures.table),
  (c.in_ok-back.ensures.whole, rw (read_back (tree c.args.re.now)) at c.in_ok-back.ensures.table),
)
