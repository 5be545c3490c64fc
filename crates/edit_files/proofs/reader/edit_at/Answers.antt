use Rattle.edit_parts.specs.Tree.{command}
use Rattle.edit_files.proofs.EditLemmas.{edit_read, edit_place, edit_large, edit_deep}
use Rattle.edit_files.proofs.reader.edit_at.Goals as goal

pub returns-in-Ok-clause-ok : goal.returns-in-Ok-clause-ok
returns-in-Ok-clause-ok c =
    edit_read c.args.text.now c.args.from (command c.in-Ok.cmd) c.requires c.in-Ok.ensures.read

pub returns-in-Err-Bad-clause-err : goal.returns-in-Err-Bad-clause-err
returns-in-Err-Bad-clause-err c = edit_place c.args.text.now c.args.from c.in-Err-Bad.place c.requires
    (rw c.in-Err-Bad.field-0-is at c.in-Err-Bad.ensures.refused)

pub returns-in-Err-Nodes-clause-err : goal.returns-in-Err-Nodes-clause-err
returns-in-Err-Nodes-clause-err c = edit_large c.args.text.now c.args.from c.requires
    (rw c.in-Err-Nodes.field-0-is at c.in-Err-Nodes.ensures.refused)

pub returns-in-Err-Deep-clause-err : goal.returns-in-Err-Deep-clause-err
returns-in-Err-Deep-clause-err c = edit_deep c.args.text.now c.args.from c.requires
    (rw c.in-Err-Deep.field-0-is at c.in-Err-Deep.ensures.refused)
