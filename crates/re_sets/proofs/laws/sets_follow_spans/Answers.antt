use Rattle.re_sets.proofs.Steps.{sets_are_entered, sets_are_stepped, sets_are_reached}
use Rattle.re_sets.proofs.laws.sets_follow_spans.Goals as goal

pub returns-clause-entered : goal.returns-clause-entered
returns-clause-entered c = sets_are_entered

pub returns-clause-stepped : goal.returns-clause-stepped
returns-clause-stepped c = sets_are_stepped

pub returns-clause-reached : goal.returns-clause-reached
returns-clause-reached c = sets_are_reached
