use Rattle.plumb_msg.proofs.MessageLaws.{written_again}
use Rattle.plumb_msg.proofs.writing.write_msg.Goals as goal

pub returns-clause-again : goal.returns-clause-again
returns-clause-again c = written_again c.args.msg.now c.msg_text.result c.requires c.msg_text.ensures
