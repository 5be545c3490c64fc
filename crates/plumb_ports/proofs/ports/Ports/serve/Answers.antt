use Rattle.std.proofs.Common.{◌≡◌, false, subst, sym}
use Rattle.am_text.specs.Twice.{Twice}
use Rattle.plumb_ports.specs.PortsState.{PortsState, read_waits}
use Rattle.plumb_ports.proofs.ReadLemmas.{next-ready}
use Rattle.plumb_ports.proofs.ports.Ports.serve.Goals as goal

pub answer-requires : goal.answer-requires
answer-requires c =
    subst (λ (t : Twice PortsState). read_waits t.present c.in-Some.asker ≡ false) (sym c.take_next.ensures)
    (next-ready c.args.self.now.present c.in-Some.asker (sym c.in-Some.ensures))
