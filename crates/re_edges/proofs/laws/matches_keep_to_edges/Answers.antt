use Rattle.re_edges.proofs.Keeping.{keep_to_edges}
use Rattle.re_edges.proofs.laws.matches_keep_to_edges.Goals as goal

pub returns : goal.returns
returns c = keep_to_edges
