use Rattle.plumb_msg.proofs.MessageLaws.{read_again}
use Rattle.plumb_msg.proofs.laws.messages_are_read_again.Goals as goal

pub returns : goal.returns
returns c = read_again
