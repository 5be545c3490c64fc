use Rattle.am_text.proofs.Fronts.{begun_is_front}
use Rattle.am_text.proofs.laws.begun_is_front.Goals as goal

pub returns : goal.returns
returns c = begun_is_front
