use Rattle.std.proofs.Common.{ap, sym, subst}
use Rattle.am_text.specs.Twice.{Twice}
use Rattle.plumb_ports.specs.PortsState.{PortsState}
use Rattle.core_events.specs.PortSound.{ArePortsSound}
use Rattle.core_events.proofs.PortSounds.{sound_ask}
use Rattle.core_events.proofs.port_asking.read_port.Goals as goal

pub returns-in-Now-clause-sound : goal.returns-in-Now-clause-sound
returns-in-Now-clause-sound c =
    subst (λ (s : PortsState). ArePortsSound s) (sym (ap (λ (t : Twice PortsState). t.present)
    c.in_ok-piece.ensures.ok))
    (sound_ask c.args.ports.now.present c.args.asker c.requires.small c.requires.sound)
