use Rattle.core_events.proofs.Ends.{sound_both, idle_both}
use Rattle.core_events.proofs.PortSounds.{sound_leave}
use Rattle.core_events.proofs.PortIdles.{idle_leave}
use Rattle.core_events.proofs.port_closing.close_opening.Goals as goal

pub returns-in-Some-clause-sound : goal.returns-in-Some-clause-sound
returns-in-Some-clause-sound c =
    λ h. sound_both c.leave.new.self _ c.leave.ensures (sound_leave c.args.ports.now.present c.in-Some.opening h)

pub returns-in-Some-clause-idle : goal.returns-in-Some-clause-idle
returns-in-Some-clause-idle c =
    λ h. idle_both c.leave.new.self _ c.leave.ensures (idle_leave c.args.ports.now.present c.in-Some.opening h)
