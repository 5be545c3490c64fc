use Rattle.std.proofs.Common.{arith}
use Rattle.core_outputs.proofs.Places.{keep_part, keep_part_kept, none_touched_kept}
use Rattle.core_outputs.proofs.outputs.keep_touched.Goals as goal

pub returns-then-touched-clause-present : goal.returns-then-touched-clause-present
returns-then-touched-clause-present c = keep_part c.args.all.now c.keep_each.new.all c.args.touched c.requires
    c.if-touched.true c.keep_each.ensures

pub returns-then-touched-clause-kept : goal.returns-then-touched-clause-kept
returns-then-touched-clause-kept c = keep_part_kept c.args.all.now c.keep_each.new.all c.args.touched c.requires
    c.if-touched.true c.keep_each.ensures

pub returns-else-touched-clause-kept : goal.returns-else-touched-clause-kept
returns-else-touched-clause-kept c = none_touched_kept c.args.all.now c.args.touched c.requires c.if-touched.false
