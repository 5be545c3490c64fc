use Rattle.re_syntax.proofs.Complete.{one_tree}
use Rattle.re_syntax.proofs.laws.a_text_has_one_tree.Goals as goal

pub returns : goal.returns
returns c = one_tree
