use Rattle.am_journal.proofs.JournalLaws.{reads_journal}
use Rattle.am_journal.proofs.laws.journals_are_read_again.Goals as goal

pub returns : goal.returns
returns c = reads_journal
