use Rattle.edit_parts.specs.Tree.{command}
use Rattle.sam_syntax.proofs.Edits.{edit_ok, edit_bad, edit_large, edit_deep}
use Rattle.sam_syntax.proofs.reader.read_edit.Goals as goal

pub returns-in-Ok : goal.returns-in-Ok
returns-in-Ok c = edit_ok c.args.text.now (command c.in-Ok.cmd) c.in-Ok.ensures.read c.in-Ok.ensures.small

pub returns-in-Err-Bad : goal.returns-in-Err-Bad
returns-in-Err-Bad c = edit_bad c.args.text.now c.in-Err-Bad.field-0-0
    (rw c.in-Err-Bad.field-0-is at c.in-Err-Bad.ensures.refused)

pub returns-in-Err-Nodes : goal.returns-in-Err-Nodes
returns-in-Err-Nodes c = edit_large c.args.text.now (rw c.in-Err-Nodes.field-0-is at c.in-Err-Nodes.ensures.refused)

pub returns-in-Err-Deep : goal.returns-in-Err-Deep
returns-in-Err-Deep c = edit_deep c.args.text.now (rw c.in-Err-Deep.field-0-is at c.in-Err-Deep.ensures.refused)
