use Rattle.sam_address.proofs.LawLemmas.{line_starts_are_those, line_starts_rise}
use Rattle.sam_address.proofs.laws.line_starts_follow_newlines.Goals as goal

pub returns-clause-those : goal.returns-clause-those
returns-clause-those c = line_starts_are_those

pub returns-clause-rising : goal.returns-clause-rising
returns-clause-rising c = line_starts_rise
