use Rattle.core_steps.proofs.Orders.{rows_kept, rows_ordered}
use Rattle.core_steps.proofs.laws.answers_are_in_order.Goals as goal

pub returns-clause-rows : goal.returns-clause-rows
returns-clause-rows c = rows_kept

pub returns-clause-order : goal.returns-clause-order
returns-clause-order c = rows_ordered
