use Rattle.core_fids.proofs.Answers.{known_still, unknown_still}
use Rattle.core_fids.proofs.attaching.agree.Goals as goal

pub returns-then-not-is_version-clause-still : goal.returns-then-not-is_version-clause-still
returns-then-not-is_version-clause-still c = unknown_still _ _ _ _ _ c.in_ok-copied.ensures c.new.ensures
    c.plain.ensures

pub returns-clause-still : goal.returns-clause-still
returns-clause-still c = known_still _ _ _ _ _ c.in_ok-copied-2.ensures c.new-2.ensures c.plain-2.ensures
