use Rattle.core_rules.proofs.Cutting.{messages_read}
use Rattle.core_rules.proofs.send_laws.texts_are_cut_into_messages.Goals as goal

pub returns : goal.returns
returns c = messages_read
