-- A connection past the 64th hasn't ended, and nothing is unsent to it.
use Rattle.std.proofs.Common.{◌≡◌, ℕ, zero, suc, ◌≤◌, false, List, [], ◌∷◌, length, fold, refl, ap, ◌∙◌, arith}
use Rattle.std.proofs.lemmas.List.{length-set, length-replicate}
use Rattle.std.specs.Prelude.{slice_index_or}
use Rattle.am_journal.specs.declared.event.Event.{Event}
use Rattle.am_journal.specs.declared.event.Journal.{Journal}
use Rattle.am_counter.specs.declared.ask.Ask.TheVariants as ask
use Rattle.core_outputs.specs.declared.reply.Reply.{Reply}
use Rattle.core_outputs.specs.Unsent.{Unsent, nothing_unsent, unsent_at, with_reply, put_reply, put_replies}
use Rattle.core_parts.specs.declared.connection.Connection.TheVariants.{Undialed}
use Rattle.core_parts.specs.declared.kind.Kind.{Kind}
use Rattle.core_parts.specs.declared.kind.Kind.TheVariants as kind
use Rattle.acme_core.specs.Asks.{answer_at}
use Rattle.core_closing.specs.Asks.{is_ended}
use Rattle.core_intents.specs.Doings.{doing_of}
use Rattle.core_parts.specs.Kinds.{kind_of}
use Rattle.core_steps.specs.Replies.{replies_of}
use Rattle.acme_core.specs.Run.{step, run, output_at}
use Rattle.core_steps.specs.Stages.{said}
use Rattle.core_closing.specs.Closing.{left_unsent}
use Rattle.core_parts.specs.States.{State, present, start_of}
use Rattle.acme_core.proofs.Few.{length-connections}

length_put : (us : List Unsent) (xs : List Reply) → length (put_replies us xs) ≡ length us
length_put us [] = refl
length_put us (x ∷ xs) = length_put (put_reply us x) xs ∙ length-set us x.conn
    (with_reply (unsent_at us x.conn) x.bytes)

length_left : (us : List Unsent) (k : Kind) → length (left_unsent us k) ≡ length us
length_left us (kind.Dials conn) = refl
length_left us (kind.Asks conn tag) = refl
length_left us (kind.Ends conn why) = refl
length_left us (kind.Takes conn) = length-set us conn nothing_unsent
length_left us kind.Acts = refl

length_step : (s : State) (e : Event) → length (step s e).unsent ≡ length s.unsent
unfolding step
length_step s e =
    let xs : List Reply = replies_of (said (present s) (kind_of e) (doing_of (present s) e)) in
    length_left (put_replies s.unsent xs) (kind_of e) ∙ length_put s.unsent xs

length_all : (s : State) (events : List Event) → length (fold step s events).unsent ≡ length s.unsent
length_all s [] = refl
length_all s (e ∷ events) = length_all (step s e) events ∙ length_step s e

-- there are 64 connections
unsents : (journal : Journal) → length (run journal).unsent ≡ 64
unfolding run
unsents journal = length_all (start_of journal.format) journal.events ∙ length-replicate 64 nothing_unsent

conns_step : (s : State) (e : Event) → length (step s e).connections ≡ length s.connections
unfolding step
conns_step s e = length-connections s.connections (kind_of e)

conns_all : (s : State) (events : List Event) → length (fold step s events).connections ≡ length s.connections
conns_all s [] = refl
conns_all s (e ∷ events) = conns_all (step s e) events ∙ conns_step s e

conns : (journal : Journal) → length (run journal).connections ≡ 64
unfolding run
conns journal = conns_all (start_of journal.format) journal.events ∙ length-replicate 64 Undialed

past : {A : Type 0} (xs : List A) (k : ℕ) (d : A) → length xs ≤ k → slice_index_or xs k d ≡ d
past [] k d h = refl
past (x ∷ xs) zero d h = absurd (omega (arith, h))
past (x ∷ xs) (suc k) d h = past xs k d (omega (arith, h))

pub nothing_past : (journal : Journal) (conn : ℕ) → 64 ≤ conn → output_at journal conn ≡ []
nothing_past journal conn h = ap (λ (u : Unsent). u.bytes) (past (run journal).unsent conn nothing_unsent
    (omega (arith, h, unsents journal)))

pub not_ended_past : (journal : Journal) (conn : ℕ) → 64 ≤ conn → answer_at journal (ask.Ended conn) ≡ false
not_ended_past journal conn h = ap is_ended (past (run journal).connections conn Undialed
    (omega (arith, h, conns journal)))
