use Rattle.ninep_wire.proofs.Sizes.{r_has_size, t_has_size}
use Rattle.ninep_wire.proofs.laws.spellings_have_their_size.Goals as goal

pub returns-clause-t : goal.returns-clause-t
returns-clause-t c = t_has_size

pub returns-clause-r : goal.returns-clause-r
returns-clause-r c = r_has_size
