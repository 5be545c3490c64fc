use Rattle.std.specs.Prelude.{◌≡◌, length, map}
use Rattle.re_machine.specs.Contexts.{BeginsAre}
use Rattle.re_machine.proofs.tables.begins_of.Given as goal

abbrev pub invariant-loop-set : goal.invariant-loop-set
invariant-loop-set g l = record {
  count : length l.all.items ≡ l.set-index;
  begins : BeginsAre (g.S.LetterSet.bits l.firsts) (map g.S.LetterSet.bits l.ascii) l.all.items;
}
