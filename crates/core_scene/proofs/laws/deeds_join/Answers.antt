use Rattle.core_scene.proofs.Dids.{joined}
use Rattle.core_scene.proofs.laws.deeds_join.Goals as goal

pub returns : goal.returns
returns c = joined
