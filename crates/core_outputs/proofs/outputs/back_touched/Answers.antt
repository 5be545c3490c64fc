use Rattle.std.proofs.Common.{arith}
use Rattle.core_outputs.proofs.Places.{back_part, back_part_kept, none_touched}
use Rattle.core_outputs.proofs.outputs.back_touched.Goals as goal

pub returns-then-touched-clause-present : goal.returns-then-touched-clause-present
returns-then-touched-clause-present c = back_part c.args.all.now c.back_each.new.all c.args.touched c.requires
    c.if-touched.true c.back_each.ensures

pub returns-then-touched-clause-kept : goal.returns-then-touched-clause-kept
returns-then-touched-clause-kept c = back_part_kept c.args.all.now c.back_each.new.all c.args.touched c.requires
    c.if-touched.true c.back_each.ensures

pub returns-else-touched-clause-present : goal.returns-else-touched-clause-present
returns-else-touched-clause-present c = none_touched c.args.all.now c.args.touched c.requires c.if-touched.false
