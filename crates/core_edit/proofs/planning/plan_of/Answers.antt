use Rattle.core_edit.proofs.Lengths.{is_plan}
use Rattle.core_edit.proofs.planning.plan_of.Goals as goal

pub plan_if_fits-requires : goal.plan_if_fits-requires
plan_if_fits-requires c = is_plan c.args.pane.now.body.state.text c.in-Ok.plan c.in-Ok.ensures.in_range
    c.in-Ok.ensures.dot
