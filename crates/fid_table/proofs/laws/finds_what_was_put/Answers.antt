use Rattle.fid_table.proofs.LawLemmas.{finds}
use Rattle.fid_table.proofs.laws.finds_what_was_put.Goals as goal

pub returns : goal.returns
returns c = finds
