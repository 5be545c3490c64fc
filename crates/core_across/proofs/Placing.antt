-- Texts in the place of ranges.
use Rattle.core_scene.proofs.Dids.{did_then}
use Rattle.core_actions.proofs.Windows.{replacing_in_range}

pub ruleset placing = (did_then, replacing_in_range)
