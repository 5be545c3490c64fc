-- Deeds, joined.
use Rattle.core_scene.proofs.Dids.{did_then}

pub ruleset joins = (did_then)
