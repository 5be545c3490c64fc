use Rattle.acme_watch.specs.Lines.{said_of}
use Rattle.acme_watch.specs.Watching.{answered_by}
use Rattle.core_watch.proofs.Sounds.{sound_answered}
use Rattle.core_watch.proofs.Steps.{sound_both}
use Rattle.core_watch.proofs.answering.answer_request.Goals as goal

pub returns-in-Ok-clause-sound : goal.returns-in-Ok-clause-sound
returns-in-Ok-clause-sound c =
    sound_both c.answer.new.self (answered_by c.args.watch.now.present (said_of c.args.text.now) c.args.at)
    c.in-Ok.ensures.done
    (sound_answered c.args.watch.now.present c.args.opening c.args.text.now c.args.at c.in-Ok.ensures.ok
    c.requires.sound)
