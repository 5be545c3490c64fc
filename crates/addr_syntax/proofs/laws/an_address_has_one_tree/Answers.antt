use Rattle.addr_syntax.proofs.Places.{one_address}
use Rattle.addr_syntax.proofs.laws.an_address_has_one_tree.Goals as goal

pub returns : goal.returns
returns c = one_address
