use Rattle.acme_watch.proofs.AnswerLaws.{again, only}
use Rattle.acme_watch.proofs.laws.answers_are_read_again.Goals as goal

pub returns-clause-again : goal.returns-clause-again
returns-clause-again c = again

pub returns-clause-only : goal.returns-clause-only
returns-clause-only c = only
