use Rattle.sam_syntax.proofs.Rules.{blocks_hold}
use Rattle.sam_syntax.proofs.laws.a_block_holds_its_lines.Goals as goal

pub returns : goal.returns
returns c = blocks_hold
