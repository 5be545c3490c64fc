use Rattle.core_scene.proofs.Watched.{are_watched}
use Rattle.core_scene.proofs.laws.requests_are_watched.Goals as goal

pub returns : goal.returns
returns c = are_watched c.requests_stay_in_order.ensures.kept
