use Rattle.fid_table.proofs.LawLemmas.{drops}
use Rattle.fid_table.proofs.laws.drops_all_fids.Goals as goal

pub returns : goal.returns
returns c = drops
