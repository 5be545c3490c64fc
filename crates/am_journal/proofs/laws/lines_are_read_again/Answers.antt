use Rattle.am_journal.proofs.LineLaws.{line-again}
use Rattle.am_journal.proofs.laws.lines_are_read_again.Goals as goal

pub returns : goal.returns
returns c = line-again
