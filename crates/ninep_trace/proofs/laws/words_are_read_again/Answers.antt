use Rattle.ninep_trace.proofs.LineLaws.{words-again, words-is}
use Rattle.ninep_trace.proofs.laws.words_are_read_again.Goals as goal

pub returns-clause-again : goal.returns-clause-again
returns-clause-again c = words-again

pub returns-clause-only : goal.returns-clause-only
returns-clause-only c = words-is
