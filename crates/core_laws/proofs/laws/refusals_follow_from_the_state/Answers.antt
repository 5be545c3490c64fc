use Rattle.core_laws.proofs.Refused.{refusals_exact}
use Rattle.core_laws.proofs.laws.refusals_follow_from_the_state.Goals as goal

pub returns : goal.returns
returns c = refusals_exact
