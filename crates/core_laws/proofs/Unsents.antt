-- What entries reply is what they leave unsent, but for what they take.
use Rattle.std.proofs.Common.{◌≡◌, ℕ, zero, suc, ◌+◌, ◌<◌, true, false, cond, eqb, List, [], ◌∷◌, ◌++◌, length, fold}
use Rattle.std.proofs.Common.{refl, sym, ap, subst, ◌∙◌, append_assoc, append-nil, arith}
use Rattle.std.specs.Prelude.{slice_set, replicate}
use Rattle.std.proofs.lemmas.Bool.{eqb-true, eqb-false}
use Rattle.std.proofs.lemmas.List.{get_or-set_same, get_or-set_other, length-set, length-replicate}
use Rattle.am_journal.specs.declared.event.Event.{Event}
use Rattle.am_journal.specs.declared.event.Event.TheVariants as event
use Rattle.am_counter.specs.Sent.{sent_by, sent_from}
use Rattle.core_outputs.specs.declared.reply.Reply.{Reply}
use Rattle.core_parts.specs.Kinds.{kind_of}
use Rattle.acme_core.specs.Run.{step, run, output_at, output_in}
use Rattle.core_parts.specs.declared.kind.Kind.{Kind}
use Rattle.core_parts.specs.declared.kind.Kind.TheVariants as kind
use Rattle.core_steps.specs.Stages.{said}
use Rattle.core_closing.specs.Closing.{left_unsent}
use Rattle.core_parts.specs.States.{State, present, start_of}
use Rattle.core_intents.specs.Doings.{doing_of}
use Rattle.core_steps.specs.Replies.{replies_of}
use Rattle.core_outputs.specs.Unsent.{Unsent, nothing_unsent, unsent_at, with_reply, put_reply, put_replies}
use Rattle.core_events.specs.declared.response.Response.{Response}
use Rattle.acme_core.proofs.Goes.{run-push}
use Rattle.core_events.specs.Serving.{served_most}
use Rattle.core_tasks.specs.Tasks.{task_deeds}
use Rattle.core_laws.proofs.Playing.{silent_after, goes_on, none_more}
use Rattle.core_laws.specs.Replies.{bytes_to}
use Rattle.core_laws.proofs.Replying.{replied_by, replied_from, all_replied}
use Rattle.core_laws.specs.Laws.{RepliesAreSentOrUnsent}
use Rattle.am_journal.specs.declared.event.Journal.{Journal}
use Rattle.am_journal.specs.Journal.{longer, journal_in}
use Rattle.core_laws.specs.Fronts.{followed}
use Rattle.am_journal.specs.declared.event.Format.{Format}

-- ---- replies that are put

abbrev bytes_at : List Unsent → ℕ → List ℕ
bytes_at us conn = (unsent_at us conn).bytes

put_one : (us : List Unsent) (x : Reply) (conn : ℕ) → conn < length us
    → bytes_at (put_reply us x) conn ≡ bytes_at us conn ++ cond (eqb x.conn conn) x.bytes []
put_one us x conn inside =
    elim (eqb x.conn conn) as (λ b. eqb x.conn conn ≡ b → bytes_at (put_reply us x) conn ≡ bytes_at us conn
    ++ cond b x.bytes []) [
      | true ↦ λ e. let at : x.conn ≡ conn = eqb-true x.conn conn e in
          subst (λ (c : ℕ). bytes_at (slice_set us c (with_reply (unsent_at us c) x.bytes)) conn ≡ bytes_at us conn
          ++ x.bytes) (sym at)
          (ap (λ (u : Unsent). u.bytes) (get_or-set_same us conn (with_reply (unsent_at us conn) x.bytes) nothing_unsent
          inside))
      | false ↦ λ e.
          ap (λ (u : Unsent). u.bytes) (get_or-set_other us x.conn conn (with_reply (unsent_at us x.conn) x.bytes)
          nothing_unsent (λ (s : conn ≡ x.conn). eqb-false x.conn conn e (sym s)))
          ∙ sym (append-nil (bytes_at us conn))
    ] refl

put_all : (us : List Unsent) (xs : List Reply) (conn : ℕ) → conn < length us
    → bytes_at (put_replies us xs) conn ≡ bytes_at us conn ++ bytes_to conn xs
put_all us [] conn inside = sym (append-nil (bytes_at us conn))
put_all us (x ∷ xs) conn inside =
    put_all (put_reply us x) xs conn (omega (
      arith,
      inside,
      length-set us x.conn
          (with_reply (unsent_at us x.conn) x.bytes),
    ))
    ∙ ap (λ (l : List ℕ). l ++ bytes_to conn xs) (put_one us x conn inside)
    ∙ append_assoc (bytes_at us conn) (cond (eqb x.conn conn) x.bytes []) (bytes_to conn xs)

-- ---- the connections stay 64

length_put : (us : List Unsent) (xs : List Reply) → length (put_replies us xs) ≡ length us
length_put us [] = refl
length_put us (x ∷ xs) = length_put (put_reply us x) xs ∙ length-set us x.conn
    (with_reply (unsent_at us x.conn) x.bytes)

length_left : (us : List Unsent) (k : Kind) → length (left_unsent us k) ≡ length us
length_left us (kind.Dials conn) = refl
length_left us (kind.Asks conn tag) = refl
length_left us (kind.Ends conn why) = refl
length_left us (kind.Takes conn) = length-set us conn nothing_unsent
length_left us kind.Acts = refl

length_step : (s : State) (e : Event) → length (step s e).unsent ≡ length s.unsent
unfolding step
length_step s e =
    let xs : List Reply = replies_of (said (present s) (kind_of e) (doing_of (present s) e)) in
    length_left (put_replies s.unsent xs) (kind_of e) ∙ length_put s.unsent xs

length_all : (s : State) (events : List Event) → length (fold step s events).unsent ≡ length s.unsent
length_all s [] = refl
length_all s (e ∷ events) = length_all (step s e) events ∙ length_step s e

pub conns : (journal : Journal) → length (run journal).unsent ≡ 64
unfolding run
conns journal = length_all (start_of journal.format) journal.events ∙ length-replicate 64 nothing_unsent

-- ---- one entry

taken_at : (us : List Unsent) (c conn : ℕ) → conn < length us
    → bytes_at us conn ++ [] ≡ cond (eqb c conn) (bytes_at us c) [] ++ bytes_at (slice_set us c nothing_unsent) conn
taken_at us c conn inside =
    elim (eqb c conn) as (λ b. eqb c conn ≡ b → bytes_at us conn ++ [] ≡ cond b (bytes_at us c) []
    ++ bytes_at (slice_set us c nothing_unsent) conn) [
      | true ↦ λ e. let at : c ≡ conn = eqb-true c conn e in
          subst (λ (x : ℕ). bytes_at us conn ++ [] ≡ bytes_at us x ++ bytes_at (slice_set us x nothing_unsent) conn)
          (sym at)
          (ap (λ (u : Unsent). bytes_at us conn ++ u.bytes) (sym (get_or-set_same us conn nothing_unsent nothing_unsent
          inside)))
      | false ↦ λ e.
          append-nil (bytes_at us conn)
          ∙ ap (λ (u : Unsent). u.bytes) (sym (get_or-set_other us c conn nothing_unsent nothing_unsent
          (λ (h : conn ≡ c). eqb-false c conn e (sym h))))
    ] refl

-- what a step of this state says
abbrev said_by : State → Event → List Reply
said_by s e = replies_of (said (present s) (kind_of e) (doing_of (present s) e))

one : (before : Journal) (e : Event) (conn : ℕ) → conn < length (run before).unsent
    → output_at before conn ++ bytes_to conn (step (run before) e).replies
    ≡ sent_by (output_in before.format) conn before.events e
    ++ bytes_at (step (run before) e).unsent conn
unfolding step task_deeds served_most
one before (event.Dial c) conn inside = sym (put_all (run before).unsent (said_by (run before) (event.Dial c)) conn
    inside)
one before (event.Msg c msg) conn inside = sym (put_all (run before).unsent (said_by (run before) (event.Msg c msg))
    conn inside)
one before (event.Hang c why) conn inside = sym (put_all (run before).unsent (said_by (run before) (event.Hang c why))
    conn inside)
one before (event.Took c) conn inside =
    let s : State = run before in
    let none : said (present s) (kind.Takes c) (doing_of (present s) (event.Took c)) ≡ [] = silent_after before
    (s.entries + 1) s.tables in
    subst (λ (xs : List Response). output_at before conn ++ bytes_to conn (replies_of xs) ≡ cond (eqb c conn)
    (bytes_at s.unsent c) [] ++ bytes_at (slice_set (put_replies s.unsent (replies_of xs)) c nothing_unsent) conn)
    (sym none) (taken_at s.unsent c conn inside)
one before event.New conn inside = sym (put_all (run before).unsent (said_by (run before) event.New) conn inside)
one before (event.Key w side text) conn inside = sym (put_all (run before).unsent
    (said_by (run before) (event.Key w side text)) conn inside)
one before (event.Sel w range) conn inside = sym (put_all (run before).unsent (said_by (run before) (event.Sel w range))
    conn inside)
one before (event.Exec at) conn inside = sym (put_all (run before).unsent (said_by (run before) (event.Exec at)) conn
    inside)
one before (event.Arg at chord) conn inside = sym (put_all (run before).unsent
    (said_by (run before) (event.Arg at chord)) conn inside)
one before (event.Look at) conn inside = sym (put_all (run before).unsent (said_by (run before) (event.Look at)) conn
    inside)
one before (event.File path text) conn inside = sym (put_all (run before).unsent
    (said_by (run before) (event.File path text)) conn inside)
one before (event.Dir path) conn inside = sym (put_all (run before).unsent (said_by (run before) (event.Dir path)) conn
    inside)

entry : (before : Journal) (e : Event) (conn : ℕ) → conn < 64
    → output_at before conn ++ replied_by conn before e ≡ sent_by (output_in before.format) conn before.events e
    ++ output_at (longer before e) conn
entry before e conn small =
    let pushed : run (longer before e) ≡ step (run before) e = run-push before e in
    subst (λ (s : State). output_at before conn ++ bytes_to conn s.replies
    ≡ sent_by (output_in before.format) conn before.events e
    ++ bytes_at s.unsent conn) (sym pushed)
    (one before e conn (omega (arith, small, conns before)))

-- ---- all entries

pub ahead : (before : Journal) (events : List Event) (conn : ℕ) → conn < 64
    → output_at before conn ++ replied_from before events conn
    ≡ sent_from (output_in before.format) before.events events conn
    ++ output_at (followed before events) conn
unfolding sent_from
ahead before [] conn small = append-nil (output_at before conn) ∙ ap (λ (l : Journal). output_at l conn)
    (sym (none_more before))
ahead before (e ∷ events) conn small =
    let next : Journal = longer before e in
    let later : List ℕ = replied_from next events conn in
    let taken : List ℕ = sent_by (output_in before.format) conn before.events e in
    sym (append_assoc (output_at before conn) (replied_by conn before e) later)
    ∙ ap (λ (l : List ℕ). l ++ later) (entry before e conn small)
    ∙ append_assoc taken (output_at next conn) later
    ∙ ap (λ (l : List ℕ). taken ++ l) (ahead next events conn small)
    ∙ sym (append_assoc taken (sent_from (output_in next.format) next.events events conn)
    (output_at (followed next events) conn))
    ∙ ap (λ (l : Journal). (taken ++ sent_from (output_in next.format) next.events events conn) ++ output_at l conn)
    (goes_on before e events)

none_unsent : (n conn : ℕ) → bytes_at (replicate n nothing_unsent) conn ≡ []
none_unsent zero conn = refl
none_unsent (suc n) zero = refl
none_unsent (suc n) (suc conn) = none_unsent n conn

none_yet : (format : Format) (conn : ℕ) → output_at (journal_in format []) conn ≡ []
unfolding run
none_yet format conn = none_unsent 64 conn

pub sent_or_unsent : RepliesAreSentOrUnsent
sent_or_unsent journal conn small =
    let none : Journal = journal_in journal.format [] in
    sym (all_replied journal conn)
    ∙ ap (λ (l : List ℕ). l ++ replied_from none journal.events conn) (sym (none_yet journal.format conn))
    ∙ ahead none journal.events conn small
