use Rattle.re_spans.proofs.LawLemmas.{test_tells, finds_the_first, finds_the_last, finds_the_match_over}
use Rattle.re_spans.proofs.laws.searches_choose_a_match.Goals as goal

pub returns-clause-test : goal.returns-clause-test
returns-clause-test c = test_tells

pub returns-clause-first : goal.returns-clause-first
returns-clause-first c = finds_the_first

pub returns-clause-last : goal.returns-clause-last
returns-clause-last c = finds_the_last

pub returns-clause-over : goal.returns-clause-over
returns-clause-over c = finds_the_match_over
