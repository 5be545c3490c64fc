use Rattle.edit_files.specs.Command.{files_command}
use Rattle.edit_files.proofs.FileLemmas.{file_whole, file_deep, file_large}
use Rattle.edit_files.proofs.reader.in_limits.Goals as goal

pub returns-in-Whole-clause-ok : goal.returns-in-Whole-clause-ok
returns-in-Whole-clause-ok c = λ a x.
    file_whole c.args.reads_in c.in-Whole.addr c.args.name (files_command c.file.result) c.file.ensures a
    (rw c.in-Whole.is at x)

pub returns-in-Deep-clause-err : goal.returns-in-Deep-clause-err
returns-in-Deep-clause-err c = λ a x. file_deep c.args.reads_in c.args.name a (rw c.in-Deep.is at x)

pub returns-in-Large-clause-err : goal.returns-in-Large-clause-err
returns-in-Large-clause-err c = λ a x. file_large c.args.reads_in c.args.name a (rw c.in-Large.is at x)
