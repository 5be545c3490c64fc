use Rattle.std.proofs.Common.{◌≡◌, take, ◌++◌}
use Rattle.plumb_ports.proofs.opening_table.receive_each.Given as goal

abbrev pub invariant-loop-message : goal.invariant-loop-message
invariant-loop-message l =
    l.queue ≡ record l.initial.queue {
      present = record l.initial.queue.present
          { messages = l.initial.queue.present.messages ++ take l.message-index l.messages };
    }
