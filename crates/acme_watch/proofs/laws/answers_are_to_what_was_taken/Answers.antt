use Rattle.acme_watch.proofs.LifeLaws.{answers_taken}
use Rattle.acme_watch.proofs.laws.answers_are_to_what_was_taken.Goals as goal

pub returns : goal.returns
returns c = answers_taken
