use Rattle.core_rules.proofs.Rest.{held_is_begun}
use Rattle.core_rules.proofs.send_laws.held_bytes_are_no_message.Goals as goal

pub returns : goal.returns
returns c = held_is_begun
