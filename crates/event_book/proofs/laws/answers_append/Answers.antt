use Rattle.event_book.proofs.FidLemmas.{ask_appends, serve_appends, ask_leaves_others, serve_leaves_others}
use Rattle.event_book.proofs.laws.answers_append.Goals as goal

pub returns-clause-ask : goal.returns-clause-ask
returns-clause-ask c = ask_appends

pub returns-clause-serve : goal.returns-clause-serve
returns-clause-serve c = serve_appends

pub returns-clause-ask_others : goal.returns-clause-ask_others
returns-clause-ask_others c = ask_leaves_others

pub returns-clause-serve_others : goal.returns-clause-serve_others
returns-clause-serve_others c = serve_leaves_others
