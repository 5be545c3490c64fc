use Rattle.acme_watch.proofs.CallLaws.{stay_in_order}
use Rattle.acme_watch.proofs.LawLemmas.{waiting_last, takes_first}
use Rattle.acme_watch.proofs.laws.requests_stay_in_order.Goals as goal

pub returns-clause-kept : goal.returns-clause-kept
returns-clause-kept c = stay_in_order

pub returns-clause-last : goal.returns-clause-last
returns-clause-last c = waiting_last

pub returns-clause-first : goal.returns-clause-first
returns-clause-first c = takes_first
