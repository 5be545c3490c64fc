-- The index, one window further.
use Rattle.std.proofs.Common.{append_assoc}
use Rattle.std.proofs.lemmas.List.{append-nil}

pub ruleset indexing = (append_assoc, append-nil)
