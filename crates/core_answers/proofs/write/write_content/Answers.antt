use Rattle.core_answers.proofs.Possibly.{done_with}
use Rattle.core_answers.proofs.write.write_content.Goals as goal

pub returns-in-WatchOf-clause-done : goal.returns-in-WatchOf-clause-done
returns-in-WatchOf-clause-done c = done_with _ _ c.write_watch.ensures.done
