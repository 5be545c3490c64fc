use Rattle.sam_syntax.proofs.Edits.{edit_some, edit_only}
use Rattle.sam_syntax.proofs.tree_laws.edits_have_commands.Goals as goal

pub returns : goal.returns
returns c = λ text command. (edit_only text command, edit_some text command)
