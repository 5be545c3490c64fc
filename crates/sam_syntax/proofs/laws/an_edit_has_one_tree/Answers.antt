use Rattle.sam_syntax.proofs.Places.{one_edit}
use Rattle.sam_syntax.proofs.laws.an_edit_has_one_tree.Goals as goal

pub returns : goal.returns
returns c = one_edit
