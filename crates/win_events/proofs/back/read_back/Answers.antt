use Rattle.win_events.proofs.BackLemmas.{none_reads}
use Rattle.win_events.proofs.back.read_back.Goals as goal

pub returns-clause-none : goal.returns-clause-none
returns-clause-none c = none_reads c.args.bytes.now c.back_of.result c.back_of.ensures
