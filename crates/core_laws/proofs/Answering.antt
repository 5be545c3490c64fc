-- What a message is answered: what its reaction says, where nothing is refused.
use Rattle.std.proofs.Common.{◌≡◌, Bool, true, false, cond, List, ℕ, Option, Some, None, ap, ◌∙◌}
use Rattle.std.proofs.lemmas.Bool.{false≢true}
use Rattle.ninep_types.specs.declared.message.RBody.TheVariants as r
use Rattle.win_events.specs.declared.item.Origin.{Origin}
use Rattle.core_fids.specs.declared.effect.Answer.{Answer}
use Rattle.core_fids.specs.declared.effect.Answer.TheVariants.{Says, Reads, ReadsPort, ReadsWatch}
use Rattle.core_fids.specs.declared.effect.Reaction.{Reaction}
use Rattle.core_fids.specs.declared.refusal.Refusal.{Refusal}
use Rattle.core_tasks.specs.Tasks.{task_refusal, task_held}
use Rattle.core_intents.specs.Doings.{entry_by, message_doing}
use Rattle.core_fids.specs.Refusals.{refusal_text}
use Rattle.core_intents.specs.Intents.{is_refusal, or_refused, demanded_task, demand_refusal}
use Rattle.core_parts.specs.States.{Present}

-- what the fid that a message puts holds then, where its task says it
abbrev pub held_of : Present → Reaction → Origin → Option (List ℕ)
held_of s d o = task_held (entry_by s o) (demanded_task s.scene.book d.changes d.demand) s.scene

-- whether something is read that may have to be waited for
abbrev pub is_reads : Answer → Bool
is_reads (Says body) = false
is_reads (Reads fid opening count) = true
is_reads (ReadsPort fid opening count) = true
is_reads (ReadsWatch fid opening count) = true

-- a refusal reads nothing
refused_reads : (x : Option Refusal) (a read : Answer) → is_reads read ≡ true → or_refused x a ≡ read → a ≡ read
refused_reads None a read reads is = is
refused_reads (Some refusal) a read reads is =
    elim (is_refusal a) as (λ b. cond b a (Says (r.Error (refusal_text refusal))) ≡ read → a ≡ read) [
      | true ↦ λ h. h
      | false ↦ λ h. absurd (false≢true (ap is_reads h ∙ reads))
    ] is

pub message_reads : (s : Present) (d : Reaction) (o : Origin) (read : Answer) → is_reads read ≡ true
    → (message_doing s d o).answer ≡ Some read → d.answer ≡ read
message_reads s d o read reads is =
    let asked : Answer = or_refused (demand_refusal s.scene d.demand) d.answer in
    let refusal : Option Refusal = task_refusal (entry_by s o) (demanded_task s.scene.book d.changes d.demand)
    s.scene in
    let last : or_refused refusal asked ≡ read = cc in
    refused_reads (demand_refusal s.scene d.demand) d.answer read reads (refused_reads refusal asked read reads last)
