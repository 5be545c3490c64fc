-- Values of matches as the rows give them.
use Rattle.clap.proofs.WalkLemmas.{first_value-rows}

pub ruleset values = (first_value-rows)
