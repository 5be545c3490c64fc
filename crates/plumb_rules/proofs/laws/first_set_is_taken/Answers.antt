use Rattle.plumb_rules.proofs.Taken.{first_set_taken, else_own}
use Rattle.plumb_rules.proofs.laws.first_set_is_taken.Goals as goal

pub returns-clause-first : goal.returns-clause-first
returns-clause-first c = first_set_taken

pub returns-clause-own : goal.returns-clause-own
returns-clause-own c = else_own
