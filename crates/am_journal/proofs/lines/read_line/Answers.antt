use Rattle.am_journal.proofs.LineLaws.{all_found, all_lawful, all_in_range, all_spelled, all_read}
use Rattle.am_journal.proofs.lines.read_line.Goals as goal

pub returns-clause-lawful : goal.returns-clause-lawful
returns-clause-lawful c = all_lawful c.args.line.now c.event_in.result
    (all_found c.args.line.now c.event_in.result c.event_in.ensures)

pub returns-clause-in_range : goal.returns-clause-in_range
returns-clause-in_range c = all_in_range c.args.line.now c.event_in.result
    (all_found c.args.line.now c.event_in.result c.event_in.ensures)

pub returns-clause-found : goal.returns-clause-found
returns-clause-found c = all_spelled c.args.line.now c.event_in.result
    (all_found c.args.line.now c.event_in.result c.event_in.ensures)

pub returns-clause-only : goal.returns-clause-only
returns-clause-only c = all_read c.args.line.now c.event_in.result c.event_in.ensures
