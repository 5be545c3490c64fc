use Rattle.ninep_wire.proofs.RLaws.{r_again}
use Rattle.ninep_wire.proofs.TLaws.{t_again}
use Rattle.ninep_wire.proofs.laws.spellings_are_read_again.Goals as goal

pub returns-clause-t : goal.returns-clause-t
returns-clause-t c = t_again

pub returns-clause-r : goal.returns-clause-r
returns-clause-r c = r_again
