use Rattle.std.proofs.Common.{◌∙◌}
use Rattle.am_drill.proofs.Ended.{says}
use Rattle.am_drill.proofs.driving.run_and_write.Goals as goal

pub returns-in-Ok : goal.returns-in-Ok
returns-in-Ok g c = says c.put.result c.args.rounds _ _ _ c.put.ensures c.in-Ok.ensures.ok
    (c.as_slice.ensures ∙ c.in-Ok.ensures.text)
