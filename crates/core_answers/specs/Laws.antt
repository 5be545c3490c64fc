-- Laws of messages.
use Rattle.std.specs.Prelude.{◌≡◌, ◌⊎◌, ◌+◌}
use Rattle.ninep_types.specs.declared.message.TBody.{TBody}
use Rattle.ninep_types.specs.declared.message.RBody.{RBody}
use Rattle.ninep_types.specs.declared.message.RBody.TheVariants as r
use Rattle.ninep_types.specs.Spelling.{kind_t, kind_r}
use Rattle.core_fids.specs.declared.effect.Answer.{Answer}
use Rattle.core_fids.specs.declared.effect.Answer.TheVariants.{Says, Reads, ReadsPort, ReadsWatch}
use Rattle.core_fids.specs.declared.refusal.Refusal.{Refusal}
use Rattle.core_fids.specs.Servers.{ServerState}
use Rattle.ninep_types.specs.Kinds.{tread}
use Rattle.core_answers.specs.Reactions.{reaction}
use Rattle.core_fids.specs.Refusals.{refusal_text}

-- the text of a named refusal is answered
abbrev pub IsRefused : RBody → Type 0
IsRefused answer = (refusal : Refusal) × (answer ≡ r.Error (refusal_text refusal))

-- A message is answered by its own R message, whose type byte is one more, unless it is refused. A Tread alone may be
-- answered later.
abbrev pub IsAnswered : TBody → Answer → Type 0
IsAnswered asked (Says answer) = (kind_r answer ≡ kind_t asked + 1) ⊎ IsRefused answer
IsAnswered asked (Reads fid opening count) = kind_t asked ≡ tread
IsAnswered asked (ReadsPort fid opening count) = kind_t asked ≡ tread
IsAnswered asked (ReadsWatch fid opening count) = kind_t asked ≡ tread

-- In each state each message of each connection is answered.
abbrev pub EachIsAnswered : Type 0
EachIsAnswered = (server : ServerState) (body : TBody) → IsAnswered body (reaction server body).answer
