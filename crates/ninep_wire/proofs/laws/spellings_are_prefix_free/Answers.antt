use Rattle.ninep_wire.proofs.Prefixes.{r_prefix_free, t_prefix_free}
use Rattle.ninep_wire.proofs.laws.spellings_are_prefix_free.Goals as goal

pub returns-clause-t : goal.returns-clause-t
returns-clause-t c = t_prefix_free

pub returns-clause-r : goal.returns-clause-r
returns-clause-r c = r_prefix_free
