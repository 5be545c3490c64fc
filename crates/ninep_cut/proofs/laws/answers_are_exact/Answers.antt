use Rattle.ninep_cut.proofs.Fronts.{whole_where, more_where, broken_where, stays_broken, front_is}
use Rattle.ninep_cut.proofs.laws.answers_are_exact.Goals as goal

pub returns : goal.returns
returns c = record {
  whole = whole_where;
  more = more_where;
  broken = broken_where;
  stays = stays_broken;
  front =
      front_is;
}
