use Rattle.std.proofs.Common.{◌≡◌, ◌-◌}
use Rattle.ninep_types.specs.Fields.{string_at, several_at}
use Rattle.ninep_wire.proofs.Loops.{with_front}
use Rattle.ninep_wire.proofs.fields.take_strings.Given as goal

-- what was read and what is still read is all
abbrev pub invariant-loop : goal.invariant-loop
invariant-loop l = with_front l.names (several_at string_at (l.count - l.counter) l.rest) ≡ several_at string_at l.count
    l.bytes
