use Rattle.std.proofs.Common.{◌≡◌, ◌-◌}
use Rattle.ninep_trace.specs.Fields.{quoted_at, several_at}
use Rattle.ninep_trace.proofs.Loops.{with_front}
use Rattle.ninep_trace.proofs.fields.take_several_names.Given as goal

-- what was read and what is still read is all
abbrev pub invariant-loop : goal.invariant-loop
invariant-loop l = with_front l.names (several_at quoted_at (l.count - l.counter) l.rest) ≡ several_at quoted_at l.count
    l.bytes
