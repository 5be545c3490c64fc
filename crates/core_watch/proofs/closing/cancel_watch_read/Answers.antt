use Rattle.acme_watch.specs.Watching.{after_cancel}
use Rattle.core_watch.proofs.Sounds.{sound_cancel}
use Rattle.core_watch.proofs.Idles.{idle_cancel}
use Rattle.core_watch.proofs.Steps.{sound_both, idle_both}
use Rattle.core_watch.proofs.closing.cancel_watch_read.Goals as goal

pub returns-in-Cancels-clause-sound : goal.returns-in-Cancels-clause-sound
returns-in-Cancels-clause-sound c =
    sound_both c.cancel.new.self (after_cancel c.args.watch.now.present c.args.conn c.in-Cancels.tag)
    c.cancel.ensures.new (sound_cancel c.args.watch.now.present c.args.conn c.in-Cancels.tag c.requires.sound)

pub returns-in-Cancels-clause-idle : goal.returns-in-Cancels-clause-idle
returns-in-Cancels-clause-idle c =
    λ i. idle_both c.cancel.new.self (after_cancel c.args.watch.now.present c.args.conn c.in-Cancels.tag)
    c.cancel.ensures.new (idle_cancel c.args.watch.now.present c.args.conn c.in-Cancels.tag i)
