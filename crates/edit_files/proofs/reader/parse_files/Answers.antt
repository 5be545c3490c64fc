use Rattle.std.proofs.lemmas.Result.{IfOk-weaker, IfErr-weaker}
use Rattle.edit_files.specs.Command.{files_command}
use Rattle.edit_files.proofs.EditLemmas.{solid_at, files_read, files_fail}
use Rattle.edit_files.proofs.reader.parse_files.Goals as goal

pub command_at-requires-clause-solid : goal.command_at-requires-clause-solid
command_at-requires-clause-solid c = solid_at c.args.text.now 0 c.after_blanks.result c.after_blanks.ensures.behind

pub returns-clause-read : goal.returns-clause-read
returns-clause-read c =
    IfOk-weaker c.command_at.result _ _ (λ x h. files_read c.args.text.now c.after_blanks.result (files_command x)
    c.after_blanks.ensures.behind h) c.command_at.ensures.ok

pub returns-clause-refused : goal.returns-clause-refused
returns-clause-refused c =
    IfErr-weaker c.command_at.result _ _ (λ e h. files_fail c.args.text.now c.after_blanks.result e
    c.after_blanks.ensures.within c.after_blanks.ensures.behind h) c.command_at.ensures.err
