use Rattle.addr_syntax.proofs.Trees.{address_some, address_only}
use Rattle.addr_syntax.proofs.laws.addresses_have_trees.Goals as goal

pub returns : goal.returns
returns c = λ text a. (address_only text a, address_some text a)
