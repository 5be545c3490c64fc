use Rattle.core_across.proofs.TakenPlans.{sound_numbered}
use Rattle.core_across.proofs.planning.across_plans.Goals as goal

pub returns-in_ok-with_numbers-in-Ok-clause-sound : goal.returns-in_ok-with_numbers-in-Ok-clause-sound
returns-in_ok-with_numbers-in-Ok-clause-sound c =
    sound_numbered _ c.args.cmd.now c.in-Ok.plans _ c.in-Ok.ensures.ok c.in-Ok.ensures.suits
    c.in_ok-with_numbers-in-Ok.ensures
