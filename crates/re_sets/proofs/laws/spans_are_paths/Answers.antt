use Rattle.re_sets.proofs.Mirrored.{read_back, read_on}
use Rattle.re_sets.proofs.LawLemmas.{spans_are_paths, matches_are_paths, matches_are_mirrored}
use Rattle.re_sets.proofs.laws.spans_are_paths.Goals as goal

pub returns-clause-spans : goal.returns-clause-spans
returns-clause-spans c = spans_are_paths

pub returns-clause-forward : goal.returns-clause-forward
returns-clause-forward c = matches_are_paths

pub returns-clause-backward : goal.returns-clause-backward
returns-clause-backward c = matches_are_mirrored

pub returns-clause-read : goal.returns-clause-read
returns-clause-read c = λ r. (read_back r, read_on r)
