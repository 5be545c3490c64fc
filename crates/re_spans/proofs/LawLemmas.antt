-- The laws.
use Rattle.re_spans.specs.Laws.{TestTells, FindsTheFirst, FindsTheLast, FindsTheMatchOver}
use Rattle.re_spans.proofs.Tested.{matches_tell, matches_from}
use Rattle.re_spans.proofs.Chosen.{first_is, first_none, last_is, last_none}
use Rattle.re_spans.proofs.Around.{over_is, over_none}

pub test_tells : TestTells
test_tells r t i j = (matches_tell r t i j, matches_from r t i j)

pub finds_the_first : FindsTheFirst
finds_the_first r t low high no_null = (first_is r t low high no_null, first_none r t low high no_null)

pub finds_the_last : FindsTheLast
finds_the_last r t low high no_null = (last_is r t low high no_null, last_none r t low high no_null)

pub finds_the_match_over : FindsTheMatchOver
finds_the_match_over r t at = (over_is r t at, over_none r t at)
