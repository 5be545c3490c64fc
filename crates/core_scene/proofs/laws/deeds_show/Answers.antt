use Rattle.core_scene.proofs.Dids.{deeds_shown}
use Rattle.core_scene.proofs.laws.deeds_show.Goals as goal

pub returns : goal.returns
returns c = deeds_shown c.changes_show.ensures c.changes_are_lawful.ensures
