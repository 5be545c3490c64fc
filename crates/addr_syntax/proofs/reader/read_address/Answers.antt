use Rattle.addr_syntax.specs.Tree.{tree}
use Rattle.addr_syntax.proofs.Trees.{address_ok, address_bad, address_large, address_deep}
use Rattle.addr_syntax.proofs.reader.read_address.Goals as goal

pub returns-in-Ok : goal.returns-in-Ok
returns-in-Ok c = address_ok c.args.text.now (tree c.in-Ok.address) c.in-Ok.ensures.read c.in-Ok.ensures.small

pub returns-in-Err-Bad : goal.returns-in-Err-Bad
returns-in-Err-Bad c = address_bad c.args.text.now c.in-Err-Bad.field-0-0
    (rw c.in-Err-Bad.field-0-is at c.in-Err-Bad.ensures.refused)

pub returns-in-Err-Nodes : goal.returns-in-Err-Nodes
returns-in-Err-Nodes c = address_large c.args.text.now (rw c.in-Err-Nodes.field-0-is at c.in-Err-Nodes.ensures.refused)

pub returns-in-Err-Deep : goal.returns-in-Err-Deep
returns-in-Err-Deep c = address_deep c.args.text.now (rw c.in-Err-Deep.field-0-is at c.in-Err-Deep.ensures.refused)
