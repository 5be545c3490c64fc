use Rattle.std.proofs.Common.{arith}
use Rattle.core_fids.proofs.Answers.{nothing_made}
use Rattle.core_answers.proofs.write.hand.Goals as goal

pub returns-clause-done : goal.returns-clause-done
returns-clause-done c windows = record {
  sent = record { body = omega (arith, c.requires.small); size = omega arith };
  possible = nothing_made windows c.new.result c.new.ensures;
  demand = c.requires.own windows;
}
