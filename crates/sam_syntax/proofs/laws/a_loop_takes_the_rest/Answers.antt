use Rattle.sam_syntax.proofs.Rules.{loops_take}
use Rattle.sam_syntax.proofs.laws.a_loop_takes_the_rest.Goals as goal

pub returns : goal.returns
returns c = loops_take
