use Rattle.core_fids.proofs.Answers.{plain_still}
use Rattle.core_fids.proofs.refusal.refuse.Goals as goal

pub returns-clause-still : goal.returns-clause-still
returns-clause-still c = plain_still _ _ _ _ c.plain.ensures c.in_ok-error.ensures.sent c.new.ensures
