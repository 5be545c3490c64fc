use Rattle.am_do.proofs.Read.{found_lawful}
use Rattle.am_do.proofs.reading.read_do_line.Goals as goal

pub returns-clause-lawful : goal.returns-clause-lawful
returns-clause-lawful c = found_lawful c.args.line.now c.line_in.result c.line_in.ensures
