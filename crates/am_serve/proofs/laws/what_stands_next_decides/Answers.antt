use Rattle.am_serve.proofs.Deciding.{next_decides}
use Rattle.am_serve.proofs.laws.what_stands_next_decides.Goals as goal

pub returns : goal.returns
returns c = next_decides
