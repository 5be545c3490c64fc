use Rattle.event_book.proofs.FidLemmas.{taken_with, none_taken}
use Rattle.event_book.proofs.LifeLemmas.{only_answers_take}
use Rattle.event_book.proofs.laws.taken_by_answers.Goals as goal

pub returns-clause-taken : goal.returns-clause-taken
returns-clause-taken c = taken_with

pub returns-clause-none : goal.returns-clause-none
returns-clause-none c = none_taken

pub returns-clause-alone : goal.returns-clause-alone
returns-clause-alone c = only_answers_take
