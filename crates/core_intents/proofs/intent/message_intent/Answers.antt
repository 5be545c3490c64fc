use Rattle.core_parts.specs.Parts.{present_of}
use Rattle.core_intents.proofs.Meant.{message_can}
use Rattle.core_intents.proofs.intent.message_intent.Goals as goal

pub returns-clause-possible : goal.returns-clause-possible
returns-clause-possible c =
    message_can (present_of c.args.parts.now) c.args.parts.now.scene.windows.present c.args.parts.now.scene.book.kept
    c.in_ok-effect.field-0 c.message_origin.result _ c.by_demand-task.ensures.task c.requires.steady.scene.windows
    c.in_ok-effect.ensures.done
