-- Lists and deeds, joined.
use Rattle.std.proofs.Common.{append_assoc}
use Rattle.std.proofs.lemmas.List.{append-nil}
use Rattle.core_scene.proofs.Dids.{did_then}

pub ruleset words = (append_assoc, append-nil)

pub ruleset joins = (did_then)
