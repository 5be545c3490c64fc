use Rattle.edit_run.proofs.LawLemmas.{no_match, zero_nothing, one_of_two}
use Rattle.edit_run.proofs.laws.no_match_wants_nothing.Goals as goal

pub returns-clause-none : goal.returns-clause-none
returns-clause-none c = no_match

pub returns-clause-zero : goal.returns-clause-zero
returns-clause-zero c = zero_nothing

pub returns-clause-one : goal.returns-clause-one
returns-clause-one c = one_of_two
