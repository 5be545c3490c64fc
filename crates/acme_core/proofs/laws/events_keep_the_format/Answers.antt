use Rattle.acme_core.proofs.Formats.{format_stays}
use Rattle.acme_core.proofs.laws.events_keep_the_format.Goals as goal

pub returns : goal.returns
returns c = format_stays
