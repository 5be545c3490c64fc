use Rattle.ninep_cut.proofs.Runs.{joins_pieces, cuts_no_more, gives_the_cut, gives_all}
use Rattle.ninep_cut.proofs.laws.pieces_are_joined.Goals as goal

pub returns : goal.returns
returns c = record { pieces = joins_pieces; broken = cuts_no_more; calls = gives_the_cut; all = gives_all }
