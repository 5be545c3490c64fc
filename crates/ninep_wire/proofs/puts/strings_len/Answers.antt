use Rattle.std.proofs.Common.{arith}
use Rattle.ninep_wire.proofs.Lists.{string_within}
use Rattle.ninep_wire.proofs.puts.strings_len.Goals as goal

pub overflow_add-len : goal.overflow_add-len
overflow_add-len c = omega (
  arith,
  string_within c.args.names.now c.loop-name.name-index c.name-item.result
      c.loop-name-test.true c.name-item.is,
  c.requires,
  c.len.ensures,
)

pub overflow_add-len-in-loop-name : goal.overflow_add-len-in-loop-name
overflow_add-len-in-loop-name c = omega (
  arith,
  string_within c.args.names.now c.loop-name.name-index c.name-item.result
      c.loop-name-test.true c.name-item.is,
  c.requires,
  c.len.ensures,
  c.loop-name.invariant,
)
