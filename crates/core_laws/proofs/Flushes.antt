-- Nothing is said to a tag that was flushed.
use Rattle.std.proofs.Common.{◌≡◌, ℕ, Bool, true, false, not, cond, eqb, ◌&&◌, List, [], ◌∷◌, All, None, refl}
use Rattle.std.proofs.Common.{sym, ap, subst, ◌∙◌}
use Rattle.std.specs.List.{filter, list_any}
use Rattle.std.proofs.lemmas.Bool.{false≢true, not-true, or_parts}
use Rattle.std.specs.Prelude.{Contains}
use Rattle.std.proofs.lemmas.List.Elements.{All-nil, All-cons, All-contains, All-weaker, filter_passes}
use Rattle.std.proofs.lemmas.List.Folds.{list_any_none}
use Rattle.ninep_types.specs.declared.message.RBody.{RBody}
use Rattle.ninep_types.specs.declared.message.RBody.TheVariants as r
use Rattle.fid_table.specs.declared.session.Waiting.{Waiting}
use Rattle.fid_table.specs.Tables.{is_waiting, msize_of}
use Rattle.wait_queue.specs.Reads.{is_read}
use Rattle.wait_queue.specs.declared.types.Asker.{Asker}
use Rattle.acme_watch.specs.Reads.{is_asked}
use Rattle.acme_watch.specs.declared.types.WatchRead.{WatchRead}
use Rattle.win_events.specs.declared.item.Origin.TheVariants.{F}
use Rattle.am_journal.specs.declared.event.Event.{Event}
use Rattle.core_parts.specs.declared.kind.Kind.{Kind}
use Rattle.core_parts.specs.declared.kind.Kind.TheVariants as kind
use Rattle.core_parts.specs.Kinds.{kind_of}
use Rattle.core_fids.specs.declared.effect.Reaction.{Reaction}
use Rattle.core_fids.specs.declared.refusal.Refusal.TheVariants as refusal
use Rattle.core_answers.specs.Reactions.{flush_reaction}
use Rattle.core_fids.specs.Fids.{is_there}
use Rattle.core_fids.specs.Refusals.{refusal_reaction}
use Rattle.core_events.specs.declared.response.Response.{Response}
use Rattle.core_events.specs.Waits.{ended}
use Rattle.core_tasks.specs.Tasks.{task_deeds, task_refusal}
use Rattle.core_intents.specs.Doings.{message_doing, doing_of}
use Rattle.acme_core.specs.Run.{step, run, enabled, AreEnabled}
use Rattle.core_steps.specs.Stages.{response, said, grown_book, grown_ports, grown_watch, tables_after, book_after}
use Rattle.core_steps.specs.Stages.{ports_after, watch_after}
use Rattle.core_parts.specs.States.{Present, State, present, next_entry}
use Rattle.core_steps.specs.Replies.{replies_of}
use Rattle.acme_core.proofs.Goes.{run-push}
use Rattle.acme_core.proofs.Idling.{idle_after, ports_idle_after}
use Rattle.core_laws.specs.Laws.{IsFree, RepliesAreSaid, EachFlushIsAnswered, NothingToAFlushedTag, NoReadCanBeAnswered}
use Rattle.core_laws.specs.Saying.{said_after, asks, is_message, flush_of, flushed, flush_body}
use Rattle.core_laws.proofs.Playing.{played_parts, played_first, silent_after, goes_on, PlaysOn}
use Rattle.core_laws.proofs.Quiets.{IsQuiet, OfMessages, quiet_all, quiet_end}
use Rattle.core_laws.proofs.Tells.{IsWaiting, Reading, Following, OfMessage}
use Rattle.core_laws.proofs.Wells.{IsWell, well_step, well_after}
use Rattle.am_journal.specs.declared.event.Journal.{Journal}
use Rattle.am_journal.specs.Journal.{longer}
use Rattle.core_laws.specs.Fronts.{followed}

step_replies : (s : State) (e : Event) → (step s e).replies ≡ replies_of
    (said (present s) (kind_of e) (doing_of (present s) e))
unfolding step
step_replies s e = refl

pub replies_said : RepliesAreSaid
replies_said before e = ap (λ (s : State). s.replies) (run-push before e) ∙ step_replies (run before) e

-- ---- a tag that nothing waits with

abbrev OtherTag : ℕ → ℕ → ℕ → ℕ → Type 0
OtherTag conn tag c t = (eqb c conn && eqb t tag) ≡ false

none_waiting : (conn tag : ℕ) (ws : List Waiting) → All (λ w. is_waiting conn tag w ≡ false)
    (filter (λ w. not (is_waiting conn tag w)) ws)
none_waiting conn tag ws =
    All-weaker (λ w. not (is_waiting conn tag w) ≡ true) (λ w. is_waiting conn tag w ≡ false)
    (λ w h. not-true (is_waiting conn tag w) h)
    (filter (λ w. not (is_waiting conn tag w)) ws) (filter_passes (λ w. not (is_waiting conn tag w)) ws)

none_reading : (conn tag : ℕ) (rs : List Asker) → All (λ r. is_read conn tag r ≡ false)
    (filter (λ r. not (is_read conn tag r)) rs)
none_reading conn tag rs =
    All-weaker (λ r. not (is_read conn tag r) ≡ true) (λ r. is_read conn tag r ≡ false)
    (λ r h. not-true (is_read conn tag r) h)
    (filter (λ r. not (is_read conn tag r)) rs) (filter_passes (λ r. not (is_read conn tag r)) rs)

none_following : (conn tag : ℕ) (rs : List WatchRead) → All (λ r. is_asked conn tag r ≡ false)
    (filter (λ r. not (is_asked conn tag r)) rs)
none_following conn tag rs =
    All-weaker (λ r. not (is_asked conn tag r) ≡ true) (λ r. is_asked conn tag r ≡ false)
    (λ r h. not-true (is_asked conn tag r) h)
    (filter (λ r. not (is_asked conn tag r)) rs) (filter_passes (λ r. not (is_asked conn tag r)) rs)

-- ---- a Tflush

-- what a Tflush does, by whether a session is missing
abbrev pub flush_or : Bool → ℕ → Reaction
flush_or missing oldtag = cond missing (refusal_reaction refusal.VersionFirst) (flush_reaction oldtag)

-- nothing else is said, since no read that waits can be answered
flush_said : (before : Journal) (conn tag oldtag : ℕ) (there : Bool)
    → said (present (run before)) (kind.Asks conn tag) (message_doing (present (run before))
    (flush_or (not there) oldtag) F) ≡ response conn tag (flush_body there) ∷ []
unfolding task_deeds task_refusal
flush_said before conn tag oldtag true = ap (λ (xs : List Response). response conn tag (flush_body true) ∷ xs)
    (silent_after before (next_entry (present (run before))) (run before).tables)
flush_said before conn tag oldtag false = ap (λ (xs : List Response). response conn tag (flush_body false) ∷ xs)
    (silent_after before (next_entry (present (run before))) (run before).tables)

pub each_flush : EachFlushIsAnswered
each_flush before conn tag oldtag = flush_said before conn tag oldtag (is_there (msize_of (run before).tables conn))

-- the member of a list of one
one_of : (x y : Response) → Contains (x ∷ []) y → x ≡ y
one_of x y c = All-contains (λ z. x ≡ z) (x ∷ []) y (All-cons (λ z. x ≡ z) x [] refl (All-nil (λ z. x ≡ z))) c

-- so where Rflush is said, it is said alone
flushed_alone : (before : Journal) (conn tag oldtag : ℕ) → Contains (said_after before (flush_of conn tag oldtag))
    (flushed conn tag)
    → said_after before (flush_of conn tag oldtag) ≡ flushed conn tag ∷ []
flushed_alone before conn tag oldtag said_one =
    let only : Response = response conn tag (flush_body (is_there (msize_of (run before).tables conn))) in
    let is : said_after before (flush_of conn tag oldtag) ≡ only ∷ [] = each_flush before conn tag oldtag in
    is ∙ ap (λ (x : Response). x ∷ []) (one_of only (flushed conn tag)
    (subst (λ (xs : List Response). Contains xs (flushed conn tag)) is said_one))

flushes : RBody → Bool
flushes r.Flush = true
flushes body = false

first_flushes : List Response → Bool
unfolding flushes
first_flushes [] = false
first_flushes (x ∷ xs) = flushes x.message.body

is_flush : (s : Present) (conn tag oldtag : ℕ) (missing : Bool) → said s (kind.Asks conn tag)
    (message_doing s (flush_or missing oldtag) F) ≡ flushed conn tag ∷ []
    → flush_or missing oldtag ≡ flush_reaction oldtag
unfolding first_flushes flushes task_deeds task_refusal
is_flush s conn tag oldtag true h = absurd (false≢true (ap first_flushes h))
is_flush s conn tag oldtag false h = refl

abbrev QuietAfter : Present → ℕ → ℕ → ℕ → Reaction → Type 0
QuietAfter s conn tag oldtag d =
    All (IsWaiting (OtherTag conn oldtag)) (tables_after s (kind.Asks conn tag) (message_doing s d F)).waiting
    × All (Reading (OtherTag conn oldtag)) (book_after s (kind.Asks conn tag) (message_doing s d F)).reads
    × All (Reading (OtherTag conn oldtag)) (ports_after s (kind.Asks conn tag) (message_doing s d F)).reads
    × All (Following (OtherTag conn oldtag)) (watch_after s (kind.Asks conn tag) (message_doing s d F)).reads

quiet_flush : (s : Present) (conn tag oldtag : ℕ) → QuietAfter s conn tag oldtag (flush_reaction oldtag)
unfolding task_deeds task_refusal
quiet_flush s conn tag oldtag = (
  none_waiting conn oldtag (ended s.tables (said s (kind.Asks conn tag)
      (message_doing s (flush_reaction oldtag) F))).waiting,
  none_reading conn oldtag (grown_book s (kind.Asks conn tag) (message_doing s (flush_reaction oldtag) F)).reads,
  none_reading conn oldtag (grown_ports s (kind.Asks conn tag) (message_doing s (flush_reaction oldtag) F)).reads,
  none_following conn oldtag (grown_watch s (kind.Asks conn tag) (message_doing s (flush_reaction oldtag) F)).reads,
)

quiet_then : (s : State) (conn tag oldtag : ℕ) → said (present s) (kind.Asks conn tag)
    (doing_of (present s) (flush_of conn tag oldtag)) ≡ flushed conn tag ∷ []
    → IsQuiet (OtherTag conn oldtag) (step s (flush_of conn tag oldtag))
unfolding step
quiet_then s conn tag oldtag is =
    subst (QuietAfter (present s) conn tag oldtag) (sym (is_flush (present s) conn tag oldtag
    (not (is_there (msize_of s.tables conn))) is)) (quiet_flush (present s) conn tag oldtag)

-- ---- behind it

of_message : (conn tag : ℕ) (k : Kind) → asks conn tag k ≡ false → OfMessage (OtherTag conn tag) k
of_message conn tag (kind.Dials c) h = tt
of_message conn tag (kind.Asks c t) h = h
of_message conn tag (kind.Ends c why) h = tt
of_message conn tag (kind.Takes c) h = tt
of_message conn tag kind.Acts h = tt

of_messages : (conn tag : ℕ) (events : List Event) → list_any (is_message conn tag) events ≡ false →
    OfMessages (OtherTag conn tag) events
of_messages conn tag [] h = tt
of_messages conn tag (e ∷ events) h =
    let parts : (asks conn tag (kind_of e) ≡ false) × (list_any (is_message conn tag) events ≡ false) =
    or_parts (asks conn tag (kind_of e)) (list_any (is_message conn tag) events) h in
    (of_message conn tag (kind_of e) parts.0, of_messages conn tag events parts.1)

free_by : (journal : Journal) (conn tag : ℕ) → IsQuiet (OtherTag conn tag) (run journal) → IsFree journal conn tag
free_by journal conn tag quiet = record {
  waiting = list_any_none (is_waiting conn tag) (run journal).tables.waiting quiet.0;
  reads = list_any_none (is_read conn tag) (run journal).scene.book.reads quiet.1;
  port_reads = list_any_none (is_read conn tag) (run journal).scene.ports.reads quiet.2;
  watch_reads = list_any_none (is_asked conn tag) (run journal).scene.watch.reads quiet.3;
}

pub nothing_to_a_flushed : NothingToAFlushedTag
nothing_to_a_flushed before behind conn tag oldtag played said_one none =
    let is : said_after before (flush_of conn tag oldtag) ≡ flushed conn tag ∷ [] = flushed_alone before conn tag oldtag
    said_one in
    let e : Event = flush_of conn tag oldtag in
    let next : Journal = longer before e in
    let parts : AreEnabled before × PlaysOn before (e ∷ behind) = played_parts before
    (e ∷ behind) played in
    let first : (enabled before e ≡ None) × PlaysOn next behind = played_first before behind e parts.1 in
    let own : OfMessages (OtherTag conn oldtag) behind = of_messages conn oldtag behind none in
    let well : IsWell (run next) = subst IsWell (sym (run-push before e))
    (well_step (run before) e first.0 (well_after before parts.0)) in
    let quiet : IsQuiet (OtherTag conn oldtag) (run next) =
    subst (IsQuiet (OtherTag conn oldtag)) (sym (run-push before e)) (quiet_then (run before) conn tag oldtag is)
    in (
      subst (λ (l : Journal). IsFree l conn oldtag) (goes_on before e behind)
          (free_by (followed next behind) conn oldtag (quiet_end (OtherTag conn oldtag) next behind first.1 own well
          quiet)),
      quiet_all (OtherTag conn oldtag) next behind first.1 own well quiet,
    )

pub ruleset flushing = (replies_said, each_flush, nothing_to_a_flushed)

-- ---- no read that waits can be answered

pub none_can : NoReadCanBeAnswered
none_can journal = (idle_after journal, ports_idle_after journal)
