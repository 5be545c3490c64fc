use Rattle.core_steps.specs.Order.{place_in}
use Rattle.core_steps.proofs.Rows.{no_row}
use Rattle.core_steps.proofs.ordering.as_asked.Goals as goal

pub returns-then-is_empty-2-clause-exact : goal.returns-then-is_empty-2-clause-exact
returns-then-is_empty-2-clause-exact c =
    no_row (place_in c.args.sessions.now.present) c.args.others c.args.row c.is_empty-2.result
    c.is_empty-2.ensures c.if-is_empty-2.true
