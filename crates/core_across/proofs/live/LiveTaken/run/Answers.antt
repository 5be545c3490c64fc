use Rattle.core_across.proofs.TakenPlans.{lives_here, suits_here}
use Rattle.core_across.proofs.live.LiveTaken.run.Goals as goal

pub window_plan-requires : goal.window_plan-requires
window_plan-requires c = lives_here _ c.args.k c.number_at.result c.number_at.ensures c.requires

pub returns-in-Ok-clause-suits : goal.returns-in-Ok-clause-suits
returns-in-Ok-clause-suits c =
    suits_here _ c.args.k c.number_at.result _ c.in-Ok.plan c.number_at.ensures c.requires c.in-Ok.is
    c.in_ok-plan.ensures.sound
