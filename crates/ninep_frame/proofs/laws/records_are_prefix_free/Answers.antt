use Rattle.ninep_frame.proofs.PrefixFree.{prefix_free}
use Rattle.ninep_frame.proofs.laws.records_are_prefix_free.Goals as goal

pub returns : goal.returns
returns c = prefix_free
