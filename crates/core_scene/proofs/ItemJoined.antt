-- Items, one edit or one setting further.
use Rattle.std.proofs.Common.{append_assoc}
use Rattle.std.proofs.lemmas.List.{append-nil}

pub ruleset joined = (append_assoc, append-nil)
