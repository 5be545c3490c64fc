use Rattle.core_answers.proofs.Answered.{each_is_answered}
use Rattle.core_answers.proofs.laws.reactions_are_answered.Goals as goal

pub returns : goal.returns
returns c = each_is_answered
