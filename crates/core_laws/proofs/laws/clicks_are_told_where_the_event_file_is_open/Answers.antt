use Rattle.core_laws.proofs.Clicks.{clicks}
use Rattle.core_laws.proofs.laws.clicks_are_told_where_the_event_file_is_open.Goals as goal

pub returns : goal.returns
returns c = clicks
