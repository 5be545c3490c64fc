use Rattle.ninep_frame.proofs.Longest.{longest}
use Rattle.ninep_frame.proofs.laws.directory_parts_are_longest.Goals as goal

pub returns : goal.returns
returns c = longest
