use Rattle.std.proofs.Common.{arith}
use Rattle.core_windows.proofs.StoryLemmas.{steps_shown}
use Rattle.core_windows.proofs.laws.changes_show.Goals as goal

pub returns : goal.returns
returns c = steps_shown (record { body = c.begins_lawful.ensures.lawful; mark = omega arith })
