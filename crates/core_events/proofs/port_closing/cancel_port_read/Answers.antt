use Rattle.core_fids.specs.declared.effect.EventChange.TheVariants as events
use Rattle.core_events.proofs.Ends.{sound_both, idle_both}
use Rattle.core_events.proofs.PortSounds.{sound_cancelled}
use Rattle.core_events.proofs.PortIdles.{idle_cancelled}
use Rattle.core_events.proofs.port_closing.cancel_port_read.Goals as goal

pub returns-in-Cancels-clause-sound : goal.returns-in-Cancels-clause-sound
returns-in-Cancels-clause-sound c =
    λ h. sound_both c.cancel.new.self _ c.cancel.ensures.new (sound_cancelled c.args.ports.now.present c.args.conn
    (events.Cancels c.in-Cancels.tag) h)

pub returns-in-Cancels-clause-idle : goal.returns-in-Cancels-clause-idle
returns-in-Cancels-clause-idle c =
    λ h. idle_both c.cancel.new.self _ c.cancel.ensures.new (idle_cancelled c.args.ports.now.present c.args.conn
    (events.Cancels c.in-Cancels.tag) h)
