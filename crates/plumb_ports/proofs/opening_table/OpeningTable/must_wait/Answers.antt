use Rattle.plumb_ports.proofs.EachLemmas.{and_true}
use Rattle.plumb_ports.proofs.OpeningLemmas.{inbox-none, inbox-some}
use Rattle.plumb_ports.proofs.opening_table.OpeningTable.must_wait.Goals as goal

pub returns-in_default : goal.returns-in_default
returns-in_default c = rw (← c.self.view_is, inbox-none c.self.inside.all.items c.args.opening (cc)) (and_true _)

pub returns : goal.returns
returns c =
    rw (
      ← c.self.view_is,
      inbox-some c.self.inside.all.items c.args.opening c.in-Some.place c.index.result.now (cc)
          (cc),
    ) (cc)
