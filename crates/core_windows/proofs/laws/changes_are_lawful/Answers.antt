use Rattle.std.proofs.Common.{arith}
use Rattle.core_windows.proofs.StoryLemmas.{steps_lawful}
use Rattle.core_windows.proofs.laws.changes_are_lawful.Goals as goal

pub returns : goal.returns
returns c = record {
  begins = tt;
  stays = steps_lawful (record {
    body = c.begins_lawful.ensures.lawful;
    mark =
        omega arith;
  });
}
