-- The tag of a message that may come is no waiting read's, or the message is a Tversion, which does nothing but to free
-- all fids.
use Rattle.std.proofs.Common.{◌≡◌, ◌⊎◌, inl, inr, ℕ, Bool, true, false, not, cond, nat_lt, min, [], length, codes}
use Rattle.std.proofs.Common.{Option, Some, None, refl}
use Rattle.std.specs.List.{list_any}
use Rattle.std.proofs.lemmas.Bool.{and_cases, not-false, false≢true}
use Rattle.ninep_types.specs.declared.message.RBody.{RBody}
use Rattle.ninep_types.specs.declared.message.RBody.TheVariants as r
use Rattle.ninep_types.specs.declared.message.TBody.{TBody}
use Rattle.ninep_types.specs.declared.message.TBody.TheVariants as t
use Rattle.ninep_types.specs.declared.message.TMsg.{TMsg}
use Rattle.ninep_types.specs.Spelling.{spelling_t}
use Rattle.fid_table.specs.Tables.{msize_of, is_waiting}
use Rattle.am_journal.specs.declared.event.Event.TheVariants as event
use Rattle.am_journal.specs.declared.event.Why.{Why}
use Rattle.core_fids.specs.Attaching.{is_version as is_asked, agreement}
use Rattle.core_fids.specs.Plainly.{does}
use Rattle.core_fids.specs.Refusals.{refusal_text, refusal_with_effect}
use Rattle.core_fids.specs.declared.refusal.Refusal.TheVariants as refusal
use Rattle.core_fids.specs.declared.effect.Effect.TheVariants as effect
use Rattle.core_fids.specs.declared.effect.Reaction.{Reaction}
use Rattle.core_answers.specs.Reactions.{reaction}
use Rattle.core_parts.specs.Connections.{connection_at}
use Rattle.core_parts.specs.States.{Present, unsent_count}
use Rattle.core_intents.specs.Doings.{enabled_at, is_version, is_tag_used}
use Rattle.core_intents.specs.Enabled.{first_why, live_refusal, size_refusal, tag_refusal, replies_refusal}
use Rattle.core_intents.specs.Intents.{server_at}

first_parts : (a b : Option Why) → first_why a b ≡ None → (a ≡ None) × (b ≡ None)
first_parts None b h = (refl, h)
first_parts (Some w) b h = absurd cc

unused : (b : Bool) → tag_refusal b ≡ None → b ≡ false
unused true h = absurd cc
unused false h = refl

-- a Tversion frees all fids, and does nothing else
pub on_version : (s : Present) (conn : ℕ) (P : Reaction → Type 0) →
    ((msize : Option ℕ) (body : RBody) → P (does (effect.Begins msize) [] body)) → (body : TBody)
    → is_version body ≡ true
    → P (reaction (server_at s conn) body)
on_version s conn P h (t.Version msize version) is =
    elim (nat_lt msize 256) as (λ b. P (cond b (refusal_with_effect (effect.Begins None) refusal.MsizeTooSmall)
    (agreement (min msize 65560) version))) [
      | true ↦ h None (r.Error (refusal_text refusal.MsizeTooSmall))
      | false ↦
          elim (is_asked version) as (λ b. P (cond b (does (effect.Begins (Some (min msize 65560))) []
          (r.Version (min msize 65560) (codes "9P2000"))) (does (effect.Begins None) []
          (r.Version (min msize 65560) (codes "unknown"))))) [
            | true ↦ h (Some (min msize 65560)) (r.Version (min msize 65560) (codes "9P2000"))
            | false ↦ h None (r.Version (min msize 65560) (codes "unknown"))
          ]
    ]
on_version s conn P h (t.Auth afid uname aname) is = absurd (false≢true is)
on_version s conn P h (t.Flush oldtag) is = absurd (false≢true is)
on_version s conn P h (t.Attach fid afid uname aname) is = absurd (false≢true is)
on_version s conn P h (t.Walk fid newfid names) is = absurd (false≢true is)
on_version s conn P h (t.Open fid mode) is = absurd (false≢true is)
on_version s conn P h (t.Create fid name perm mode) is = absurd (false≢true is)
on_version s conn P h (t.Read fid offset count) is = absurd (false≢true is)
on_version s conn P h (t.Write fid offset bytes) is = absurd (false≢true is)
on_version s conn P h (t.Clunk fid) is = absurd (false≢true is)
on_version s conn P h (t.Remove fid) is = absurd (false≢true is)
on_version s conn P h (t.Stat fid) is = absurd (false≢true is)
on_version s conn P h (t.Wstat fid stat) is = absurd (false≢true is)

-- the tag of a message that may come is no waiting read's, or it is a Tversion
pub tag_or_version : (s : Present) (conn : ℕ) (msg : TMsg) → enabled_at s (event.Msg conn msg) ≡ None →
    (list_any (is_waiting conn msg.tag) s.tables.waiting ≡ false) ⊎ (is_version msg.body ≡ true)
tag_or_version s conn msg allowed =
    let one = first_parts (live_refusal (connection_at s.connections conn)) _ allowed in
    let two = first_parts (size_refusal (msize_of s.tables conn) (length (spelling_t msg))) _ one.1 in
    let three = first_parts (tag_refusal (is_tag_used s.tables conn msg)) (replies_refusal (unsent_count s conn))
    two.1 in
    let free : is_tag_used s.tables conn msg ≡ false = unused (is_tag_used s.tables conn msg) three.0 in
    elim (and_cases (not (is_version msg.body)) (list_any (is_waiting conn msg.tag) s.tables.waiting) free)
    as (λ z. (list_any (is_waiting conn msg.tag) s.tables.waiting ≡ false) ⊎ (is_version msg.body ≡ true)) [
      | inl version ↦ inr (not-false (is_version msg.body) version)
      | inr none ↦ inl none
    ]
