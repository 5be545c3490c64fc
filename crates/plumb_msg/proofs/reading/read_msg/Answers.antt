use Rattle.plumb_msg.proofs.MessageLaws.{msg_inside}
use Rattle.plumb_msg.proofs.reading.read_msg.Goals as goal

pub overflow_sub-result : goal.overflow_sub-result
overflow_sub-result c = msg_inside c.args.bytes.now c.in-Ok.msg c.in-Ok.rest.now c.in-Ok.ensures
