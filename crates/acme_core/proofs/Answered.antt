-- Each message is answered, also where its task is refused.
use Rattle.std.proofs.Common.{true, false, cond, Option, Some, None, refl, inr}
use Rattle.ninep_types.specs.declared.message.TBody.{TBody}
use Rattle.ninep_types.specs.declared.message.RBody.TheVariants as r
use Rattle.core_fids.specs.declared.effect.Answer.{Answer}
use Rattle.core_fids.specs.declared.effect.Answer.TheVariants.{Says}
use Rattle.core_fids.specs.Refusals.{refusal_text}
use Rattle.core_fids.specs.declared.effect.Reaction.{Reaction}
use Rattle.core_fids.specs.declared.refusal.Refusal.{Refusal}
use Rattle.core_intents.specs.Intents.{server_at}
use Rattle.core_answers.specs.Laws.{IsAnswered, EachIsAnswered as EachReactionAnswers}
use Rattle.core_tasks.specs.Tasks.{task_refusal}
use Rattle.core_intents.specs.Doings.{entry_by}
use Rattle.core_intents.specs.Intents.{is_refusal, or_refused, demanded_task, demand_refusal, reaction_at}
use Rattle.acme_core.specs.Laws.{EachIsAnswered}
use Rattle.core_intents.specs.Origins.{message_origin}

or_refused_answers : (asked : TBody) (x : Option Refusal) (a : Answer) → IsAnswered asked a
    → IsAnswered asked (or_refused x a)
or_refused_answers asked None a h = h
or_refused_answers asked (Some refusal) a h =
    elim (is_refusal a) as (λ b. IsAnswered asked (cond b a (Says (r.Error (refusal_text refusal))))) [
      | true ↦ h
      | false ↦ inr (refusal, refl)
    ]

pub answered : EachReactionAnswers → EachIsAnswered
answered law s conn msg =
    let d : Reaction = reaction_at s conn msg in
    let x : Option Refusal = demand_refusal s.scene d.demand in
    or_refused_answers msg.body (task_refusal (entry_by s (message_origin s.tables conn msg.body))
    (demanded_task s.scene.book d.changes d.demand) s.scene) (or_refused x d.answer)
    (or_refused_answers msg.body x d.answer (law (server_at s conn) msg.body))
