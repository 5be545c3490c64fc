use Rattle.std.proofs.Common.{◌≡◌, map, take, drop, ◌++◌}
use Rattle.plumb_ports.specs.Shown.{kept_of, with_delivered}
use Rattle.plumb_ports.proofs.opening_table.deliver_each.Given as goal

abbrev pub invariant-loop-queue : goal.invariant-loop-queue
invariant-loop-queue l = record {
  all : l.all ≡ map (with_delivered l.port l.message) (take l.queue-index l.initial.all)
      ++ drop l.queue-index l.initial.all;
  kept : map kept_of l.all ≡ map kept_of l.initial.all;
}
