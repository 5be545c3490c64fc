use Rattle.rule_syntax.proofs.PartLemmas.{reads_parts, reads_texts}
use Rattle.rule_syntax.proofs.laws.arguments_are_read_in_parts.Goals as goal

pub returns-clause-parts : goal.returns-clause-parts
returns-clause-parts c = reads_parts

pub returns-clause-texts : goal.returns-clause-texts
returns-clause-texts c = reads_texts
