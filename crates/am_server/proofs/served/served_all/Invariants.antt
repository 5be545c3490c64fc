use Rattle.std.proofs.Common.{◌≡◌, ◌+◌, ◌++◌, ◌≤◌, length}
use Rattle.std.specs.Prelude.{vec_len, vec_capacity}
use Rattle.am_server.specs.Served.{served_from}
use Rattle.am_server.proofs.served.served_all.Given as goal

abbrev pub invariant-loop-state : goal.invariant-loop-state
invariant-loop-state g l =
    (l.served.items ++ served_from l.journal l.slot l.state-iterator.rest.items ≡ served_from l.fn.journal 0 l.fn.slots)
    × (l.slot + length l.state-iterator.rest.items ≡ length l.fn.slots)
    × (vec_len l.served + length l.state-iterator.rest.items ≤ vec_capacity l.served)
