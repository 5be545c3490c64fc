use Rattle.fid_table.proofs.LawLemmas.{leaves}
use Rattle.fid_table.proofs.laws.leaves_other_fids.Goals as goal

pub returns : goal.returns
returns c = leaves
