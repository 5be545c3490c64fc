use Rattle.am_drill.proofs.Ranges.{all_ranged}
use Rattle.am_drill.proofs.Rounds.{all_played}
use Rattle.am_drill.proofs.laws.drill_is_played.Goals as goal

pub returns-clause-played : goal.returns-clause-played
returns-clause-played c = all_played

pub returns-clause-in_range : goal.returns-clause-in_range
returns-clause-in_range c = all_ranged
