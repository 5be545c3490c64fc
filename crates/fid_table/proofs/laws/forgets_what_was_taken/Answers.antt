use Rattle.fid_table.proofs.LawLemmas.{forgets}
use Rattle.fid_table.proofs.laws.forgets_what_was_taken.Goals as goal

pub returns : goal.returns
returns c = forgets
