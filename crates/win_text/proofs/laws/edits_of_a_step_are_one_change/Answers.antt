use Rattle.win_text.proofs.Changes.{one_change}
use Rattle.win_text.proofs.laws.edits_of_a_step_are_one_change.Goals as goal

pub returns : goal.returns
returns c = one_change
