use Rattle.std.proofs.Common.{◌≡◌, length}
use Rattle.edit_run.specs.Kept.{AreOf}
use Rattle.edit_run.proofs.kept.+making.Given as goal

abbrev pub invariant-each_of-loop-cmd : goal.invariant-each_of-loop-cmd
invariant-each_of-loop-cmd l = record {
  count : length l.all.items ≡ l.cmd-index;
  kept : AreOf l.all.items l.commands;
}
