use Rattle.re_syntax.specs.Tree.{tree}
use Rattle.plumb_rules.proofs.Expressions.{pattern_ok, pattern_large, pattern_bad}
use Rattle.plumb_rules.proofs.pattern.pattern_of.Goals as goal

pub returns-in-Ok : goal.returns-in-Ok
returns-in-Ok c = pattern_ok c.args.text.now c.in-Ok.field-0-1 (tree c.in-Ok.re) c.in-Ok.ensures.read
    c.in-Ok.ensures.small

pub returns-in-Err-Bad : goal.returns-in-Err-Bad
returns-in-Err-Bad c = pattern_bad c.args.text.now c.in-Err-Bad.field-0-0
    (rw c.in-Err-Bad.field-0-is at c.in-Err-Bad.ensures.refused)

pub returns-in-Err-Nodes : goal.returns-in-Err-Nodes
returns-in-Err-Nodes c = pattern_large c.args.text.now (rw c.in-Err-Nodes.field-0-is at c.in-Err-Nodes.ensures.refused)
