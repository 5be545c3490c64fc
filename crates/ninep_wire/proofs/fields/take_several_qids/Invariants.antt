use Rattle.std.proofs.Common.{◌≡◌, ◌-◌}
use Rattle.ninep_types.specs.Fields.{qid_at, several_at}
use Rattle.ninep_wire.proofs.Loops.{with_front}
use Rattle.ninep_wire.proofs.fields.take_several_qids.Given as goal

-- what was read and what is still read is all
abbrev pub invariant-loop : goal.invariant-loop
invariant-loop l = with_front l.qids (several_at qid_at (l.count - l.counter) l.rest) ≡ several_at qid_at l.count
    l.bytes
