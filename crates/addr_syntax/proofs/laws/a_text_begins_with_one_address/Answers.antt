use Rattle.addr_syntax.proofs.Fronts.{begins_once}
use Rattle.addr_syntax.proofs.laws.a_text_begins_with_one_address.Goals as goal

pub returns : goal.returns
returns c = begins_once
