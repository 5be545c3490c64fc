use Rattle.core_fids.specs.declared.effect.EventChange.TheVariants as events
use Rattle.core_events.proofs.Sounds.{sound_cancelled, sound_both}
use Rattle.core_events.proofs.closing.cancel_read.Goals as goal

pub returns-in-Cancels-clause-sound : goal.returns-in-Cancels-clause-sound
returns-in-Cancels-clause-sound c =
    λ at sound. sound_both at c.cancel.new.self _ c.cancel.ensures.new
    (sound_cancelled at c.args.book.now.present c.args.conn (events.Cancels c.in-Cancels.tag) sound)
