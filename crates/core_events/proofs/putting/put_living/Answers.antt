use Rattle.std.proofs.Common.{subst, sym}
use Rattle.event_book.specs.BookState.{BookState}
use Rattle.core_events.specs.Sound.{IsSound}
use Rattle.core_events.proofs.Sounds.{sound_living}
use Rattle.core_events.proofs.putting.put_living.Goals as goal

pub returns-clause-sound : goal.returns-clause-sound
returns-clause-sound c =
    λ at sound. subst (λ (s : BookState). IsSound at s) (sym c.loop-item.invariant.put)
    (sound_living at c.args.deleted.now c.args.book.now.present c.loop-item.yielded sound)
