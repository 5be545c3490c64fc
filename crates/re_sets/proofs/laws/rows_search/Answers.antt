use Rattle.re_sets.proofs.Value.{value_is}
use Rattle.re_sets.proofs.Found.{search_finds}
use Rattle.re_sets.proofs.FoundBack.{back_finds}
use Rattle.re_sets.proofs.laws.rows_search.Goals as goal

pub returns-clause-forward : goal.returns-clause-forward
returns-clause-forward c = search_finds

pub returns-clause-backward : goal.returns-clause-backward
returns-clause-backward c = back_finds

pub returns-clause-value : goal.returns-clause-value
returns-clause-value c = value_is
