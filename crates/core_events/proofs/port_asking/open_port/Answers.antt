use Rattle.std.proofs.Common.{◌≡◌, ◌+◌, ap, sym, subst, ◌∙◌, ℕ}
use Rattle.am_text.specs.Twice.{Twice}
use Rattle.plumb_ports.specs.PortsState.{PortsState, after_join}
use Rattle.core_events.specs.PortAsking.{next_opening}
use Rattle.core_events.specs.PortSound.{ArePortsSound}
use Rattle.core_events.proofs.PortSounds.{sound_join}
use Rattle.core_events.proofs.port_asking.open_port.Goals as goal

pub returns-in_ok-join-in-Joins-clause-sound : goal.returns-in_ok-join-in-Joins-clause-sound
returns-in_ok-join-in-Joins-clause-sound c =
    let before : PortsState = c.args.ports.now.present in
    let after : c.join.new.self.present ≡ after_join before c.in-Joins.port (next_opening before) =
    ap (λ (t : Twice PortsState). t.present) c.in_ok-join-in-Joins.ensures.ok
    ∙ ap (λ (n : ℕ). after_join before c.in-Joins.port (n + 1)) c.joined.ensures
    in
    λ sound. subst (λ (s : PortsState). ArePortsSound s) (sym after) (sound_join before c.in-Joins.port sound)
