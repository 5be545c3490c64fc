use Rattle.core_rules.proofs.Added.{written_kept}
use Rattle.core_rules.proofs.laws.what_is_written_is_kept.Goals as goal

pub returns : goal.returns
returns c = written_kept
