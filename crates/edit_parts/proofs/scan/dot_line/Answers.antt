use Rattle.std.proofs.Common.{arith}
use Rattle.edit_parts.proofs.Ends.{dot_at, never_dot}
use Rattle.edit_parts.proofs.scan.dot_line.Goals as goal

pub returns-then-end-text-clause-ok : goal.returns-then-end-text-clause-ok
returns-then-end-text-clause-ok c = dot_at c.args.text.now c.args.from c.first_dot-end.result c.requires
    c.first_dot-end.ensures.exact c.if-end-text.true

pub returns-else-end-text-clause-err : goal.returns-else-end-text-clause-err
returns-else-end-text-clause-err c = never_dot c.args.text.now c.args.from c.first_dot-end.result c.requires
    c.first_dot-end.ensures.exact (omega (arith, c.if-end-text.false, c.first_dot-end.ensures.within))
