use Rattle.std.proofs.Common.{◌≡◌, ◌+◌, drop}
use Rattle.std.specs.List.{position_or_len}
use Rattle.fid_table.specs.Tables.{is_waiting}
use Rattle.core_steps.proofs.ordering.place_of.Given as goal

abbrev pub invariant-loop-k : goal.invariant-loop-k
invariant-loop-k l =
    l.k + position_or_len (is_waiting l.response.conn l.response.message.tag) (drop l.k l.sessions.present.waiting)
    ≡ position_or_len (is_waiting l.response.conn l.response.message.tag) l.sessions.present.waiting
