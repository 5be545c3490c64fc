-- Views, one entry further.
use Rattle.std.proofs.Common.{append_assoc}
use Rattle.std.proofs.lemmas.List.{append-nil}

pub ruleset viewing = (append_assoc, append-nil)
