use Rattle.edit_run.proofs.LawLemmas.{texts_woven}
use Rattle.edit_run.proofs.laws.texts_and_matches_are_the_range.Goals as goal

pub returns : goal.returns
returns c = texts_woven
