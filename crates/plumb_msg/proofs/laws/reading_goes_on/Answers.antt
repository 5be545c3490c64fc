use Rattle.plumb_msg.proofs.MessageLaws.{whole_stays, bad_stays}
use Rattle.plumb_msg.proofs.laws.reading_goes_on.Goals as goal

pub returns-clause-whole : goal.returns-clause-whole
returns-clause-whole c = whole_stays

pub returns-clause-bad : goal.returns-clause-bad
returns-clause-bad c = bad_stays
