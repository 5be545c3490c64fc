use Rattle.std.specs.Prelude.{◌≡◌, length, map}
use Rattle.re_machine.specs.Contexts.{HaveNothing}
use Rattle.re_machine.proofs.contexts.no_rows.Given as goal

abbrev pub invariant-loop-n : goal.invariant-loop-n
invariant-loop-n g l = record {
  count : length l.rows.items ≡ l.n;
  none : HaveNothing (map g.S.LetterSet.bits l.rows.items);
}
