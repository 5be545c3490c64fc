use Rattle.std.proofs.Common.{arith}
use Rattle.core_fids.proofs.Entries.{is_port, no_port}
use Rattle.core_fids.proofs.directory.port_at.Goals as goal

pub returns-then-k-min-clause-exact : goal.returns-then-k-min-clause-exact
returns-then-k-min-clause-exact c = is_port c.args.ports.now c.args.k (omega (arith, c.if-k-min.true, c.min.ensures))

pub returns-else-k-min-clause-exact : goal.returns-else-k-min-clause-exact
returns-else-k-min-clause-exact c = no_port c.args.ports.now c.args.k (omega (arith, c.if-k-min.false, c.min.ensures))
