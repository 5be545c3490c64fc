use Rattle.std.proofs.Common.{rules, arith, subst}
use Rattle.am_journal.specs.Lawful.{AreBytes}
use Rattle.am_serve.proofs.Passing.{looks_same}
use Rattle.am_serve.proofs.sending.try_message.Goals as goal

pub returns-in-Err-Fault-clause-tries : goal.returns-in-Err-Fault-clause-tries
returns-in-Err-Fault-clause-tries g c = (looks_same (g.C.Counter.known c.args.seat.now), search rules)

pub returns-in-Err-NoMemory-clause-tries : goal.returns-in-Err-NoMemory-clause-tries
returns-in-Err-NoMemory-clause-tries g c = (looks_same (g.C.Counter.known c.args.seat.now), tt)

pub submit-requires-clause-in_range : goal.submit-requires-clause-in_range
submit-requires-clause-in_range g c = (
  omega (arith, c.requires.conn),
  c.in-Ok.ensures.in_range,
  subst AreBytes c.in-Ok.ensures.found.1 (λ i. (c.type_inv.message i).fits),
)
