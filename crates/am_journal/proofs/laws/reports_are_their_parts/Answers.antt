use Rattle.am_journal.proofs.Parted.{are_reports}
use Rattle.am_journal.proofs.laws.reports_are_their_parts.Goals as goal

pub returns : goal.returns
returns c = are_reports
