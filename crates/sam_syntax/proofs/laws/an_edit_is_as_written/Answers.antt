use Rattle.sam_syntax.proofs.Reached.{joins_as_written, edits_are_written}
use Rattle.sam_syntax.proofs.laws.an_edit_is_as_written.Goals as goal

pub returns-clause-pieces : goal.returns-clause-pieces
returns-clause-pieces c = joins_as_written

pub returns-clause-text : goal.returns-clause-text
returns-clause-text c = edits_are_written
