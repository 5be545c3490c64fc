use Rattle.plumb_msg.proofs.MessageLaws.{whole_is_exact, more_is_exact, bad_is_exact}
use Rattle.plumb_msg.proofs.laws.answers_are_exact.Goals as goal

pub returns-clause-whole : goal.returns-clause-whole
returns-clause-whole c = whole_is_exact

pub returns-clause-more : goal.returns-clause-more
returns-clause-more c = more_is_exact

pub returns-clause-bad : goal.returns-clause-bad
returns-clause-bad c = bad_is_exact
