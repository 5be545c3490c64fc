use Rattle.am_journal.proofs.LineLaws.{all_again}
use Rattle.am_journal.proofs.lines.write_line.Goals as goal

pub returns-clause-again : goal.returns-clause-again
returns-clause-again c = all_again c.args.event.now c.line_of.result c.line_of.ensures c.requires
