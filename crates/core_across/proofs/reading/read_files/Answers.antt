use Rattle.edit_files.specs.Command.{files_command}
use Rattle.core_across.proofs.Readings.{read_ok, read_bad, read_large, read_deep}
use Rattle.core_across.proofs.reading.read_files.Goals as goal

pub returns-in-Ok : goal.returns-in-Ok
returns-in-Ok c = read_ok c.args.text.now (files_command c.in-Ok.cmd) c.in-Ok.ensures.read c.in-Ok.ensures.small

pub returns-in-Err-Bad : goal.returns-in-Err-Bad
returns-in-Err-Bad c = read_bad c.args.text.now c.in-Err-Bad.field-0-0
    (rw c.in-Err-Bad.field-0-is at c.in-Err-Bad.ensures.refused)

pub returns-in-Err-Nodes : goal.returns-in-Err-Nodes
returns-in-Err-Nodes c = read_large c.args.text.now (rw c.in-Err-Nodes.field-0-is at c.in-Err-Nodes.ensures.refused)

pub returns-in-Err-Deep : goal.returns-in-Err-Deep
returns-in-Err-Deep c = read_deep c.args.text.now (rw c.in-Err-Deep.field-0-is at c.in-Err-Deep.ensures.refused)
