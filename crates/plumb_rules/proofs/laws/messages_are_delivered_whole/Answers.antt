use Rattle.plumb_rules.proofs.Kept.{data_are_kept}
use Rattle.plumb_rules.proofs.Taken.{port_is_dst, spelled_stays}
use Rattle.plumb_rules.proofs.laws.messages_are_delivered_whole.Goals as goal

pub returns-clause-port : goal.returns-clause-port
returns-clause-port c = port_is_dst

pub returns-clause-spelled : goal.returns-clause-spelled
returns-clause-spelled c = spelled_stays

pub returns-clause-kept : goal.returns-clause-kept
returns-clause-kept c = data_are_kept
