use Rattle.std.proofs.Common.{refl, arith}
use Rattle.am_desk.specs.Journals.{journal_of}
use Rattle.am_desk.proofs.Past.{nothing_past, not_ended_past}
use Rattle.am_desk.proofs.settled.Settled.take.Goals as goal

pub returns-then-conn-ge-CONNECTIONS-clause-nothing_yet : goal.returns-then-conn-ge-CONNECTIONS-clause-nothing_yet
returns-then-conn-ge-CONNECTIONS-clause-nothing_yet c = λ _. (
  refl,
  refl,
  not_ended_past (journal_of c.args.self.now) c.args.conn (omega (arith, c.if-conn-ge-CONNECTIONS.true)),
  nothing_past (journal_of c.args.self.now) c.args.conn (omega (arith, c.if-conn-ge-CONNECTIONS.true)),
)
