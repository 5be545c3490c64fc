use Rattle.re_spans.proofs.Following.{successive_follow, successive_in_order}
use Rattle.re_spans.proofs.laws.successive_matches_follow.Goals as goal

pub returns-clause-follow : goal.returns-clause-follow
returns-clause-follow c = successive_follow

pub returns-clause-ordered : goal.returns-clause-ordered
returns-clause-ordered c = successive_in_order
