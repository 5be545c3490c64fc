use Rattle.ninep_frame.proofs.Sizes.{record_len}
use Rattle.ninep_frame.proofs.laws.records_have_their_size.Goals as goal

pub returns : goal.returns
returns c = record_len
