-- A read waits only in a session, so a Tflush for its tag is answered by Rflush.
use Rattle.std.proofs.Common.{◌≡◌, ◌≢◌, ℕ, Bool, true, false, not, cond, eqb, ◌&&◌, ◌||◌, List, [], ◌∷◌, find}
use Rattle.std.proofs.Common.{fold, nat_lt, min, codes, slice_index_or, Option, Some, None, option_map, All, refl, sym}
use Rattle.std.proofs.Common.{ap, subst, ◌∙◌}
use Rattle.std.specs.List.{filter, list_any}
use Rattle.std.specs.Option.{option_or}
use Rattle.std.proofs.lemmas.Bool.{false≢true, eqb-true, eqb-false, not-true}
use Rattle.std.proofs.lemmas.List.Elements.{All-nil, All-head, All-tail, All-weaker, All-filter, filter_passes}
use Rattle.std.proofs.lemmas.List.Folds.{find-append}
use Rattle.ninep_types.specs.declared.message.TBody.{TBody}
use Rattle.ninep_types.specs.declared.message.TBody.TheVariants as t
use Rattle.ninep_types.specs.declared.message.TMsg.{TMsg}
use Rattle.ninep_types.specs.declared.message.RBody.{RBody}
use Rattle.ninep_types.specs.declared.message.RBody.TheVariants as r
use Rattle.fid_table.specs.declared.session.Session.{Session}
use Rattle.fid_table.specs.declared.session.Waiting.{Waiting}
use Rattle.fid_table.specs.Tables.{Tables, is_session, is_waiting, is_waiting_on, msize_in, msize_of, on_session}
use Rattle.fid_table.specs.Tables.{put_in, taken_from, begun, after_join, after_version, after_hangup}
use Rattle.fid_table.proofs.PlaceLemmas.{find_changed, find_other}
use Rattle.event_book.specs.BookState.{BookState}
use Rattle.win_events.specs.declared.item.Origin.TheVariants.{F}
use Rattle.am_journal.specs.declared.event.Event.{Event}
use Rattle.am_journal.specs.declared.event.Event.TheVariants as event
use Rattle.core_fids.specs.declared.effect.Answer.{Answer}
use Rattle.core_fids.specs.declared.effect.Answer.TheVariants.{Says, Reads, ReadsPort, ReadsWatch}
use Rattle.core_fids.specs.declared.effect.Reaction.{Reaction}
use Rattle.core_fids.specs.declared.effect.Effect.{Effect}
use Rattle.core_fids.specs.declared.effect.Effect.TheVariants as effect
use Rattle.core_fids.specs.declared.effect.EventChange.{EventChange}
use Rattle.core_fids.specs.declared.refusal.Refusal.TheVariants as refusal
use Rattle.core_fids.specs.Attaching.{is_version, agreement, version_reaction}
use Rattle.core_answers.specs.Reactions.{needs_session, session_reaction, flush_reaction}
use Rattle.core_fids.specs.Plainly.{does}
use Rattle.core_fids.specs.Fids.{is_there}
use Rattle.core_fids.specs.Refusals.{refusal_reaction, refusal_with_effect, reaction_or_refusal}
use Rattle.core_events.specs.declared.response.Response.{Response}
use Rattle.core_events.specs.Asking.{read_said, waits_unless}
use Rattle.core_events.specs.Waits.{ended, without_cancelled}
use Rattle.core_parts.specs.declared.kind.Kind.TheVariants as kind
use Rattle.core_parts.specs.Connections.{grown_with, ended_with}
use Rattle.core_events.specs.Putting.{put_living}
use Rattle.core_events.specs.Serving.{served_all}
use Rattle.core_tasks.specs.Tasks.{task_deeds, task_refusal}
use Rattle.core_laws.proofs.Playing.{silent_after}
use Rattle.plumb_ports.specs.PortsState.{PortsState}
use Rattle.core_fids.specs.Servers.{ServerState}
use Rattle.core_events.specs.PortAsking.{port_said}
use Rattle.core_events.specs.PortServing.{ports_served}
use Rattle.core_steps.specs.PortReads.{port_read_in, asked_tables}
use Rattle.core_steps.specs.WatchReads.{watch_asked, watch_read_in, followed_tables}
use Rattle.acme_watch.specs.Watching.{WatchState}
use Rattle.core_fids.specs.declared.effect.WatchOpening.{WatchOpening}
use Rattle.core_watch.specs.Asking.{watch_said}
use Rattle.core_watch.specs.Serving.{watch_served}
use Rattle.win_events.specs.declared.item.Origin.{Origin}
use Rattle.core_intents.specs.Doings.{message_doing, doing_of}
use Rattle.core_parts.specs.Doing.{Doing}
use Rattle.core_intents.specs.Intents.{reaction_at, server_at}
use Rattle.core_intents.specs.Origins.{message_origin}
use Rattle.acme_core.specs.Run.{step, run}
use Rattle.core_steps.specs.Order.{as_asked}
use Rattle.core_steps.specs.Stages.{asker_of, answer_tables, acted, said}
use Rattle.core_parts.specs.States.{Present, State, present, next_entry, start_of}
use Rattle.core_laws.specs.Laws.{FlushesAreAnswered}
use Rattle.core_laws.specs.Saying.{flushed}
use Rattle.core_laws.proofs.Answering.{is_reads, message_reads}
use Rattle.core_laws.proofs.Flushes.{flush_or}
use Rattle.core_laws.proofs.Wells.{done_sessions, done_waiting, cancelled_sessions, cancelled_waiting, waits_sessions}
use Rattle.core_laws.proofs.Wells.{waits_waiting}
use Rattle.am_journal.specs.declared.event.Journal.{Journal}

-- a session of the connection is open
abbrev HasSession : Tables → ℕ → Type 0
HasSession t conn = is_there (msize_of t conn) ≡ true

abbrev InSession : Tables → Waiting → Type 0
InSession t w = HasSession t w.conn

abbrev AreInSession : Tables → Type 0
AreInSession t = All (InSession t) t.waiting

-- ---- what changes of a session

same_in : (t u : Tables) → ((conn : ℕ) → msize_of u conn ≡ msize_of t conn) → (ws : List Waiting) → All (InSession t) ws
    → All (InSession u) ws
same_in t u same ws h = All-weaker (InSession t) (InSession u) (λ w k. ap is_there (same w.conn) ∙ k) ws h

by_sessions : (t u : Tables) → u.sessions ≡ t.sessions → (conn : ℕ) → msize_of u conn ≡ msize_of t conn
by_sessions t u same conn = ap (λ (ss : List Session). msize_in (find (is_session conn) ss)) same

joined_msize : (n : Session) (b : Bool) (o : Option Session) → n.msize ≡ None →
    msize_in (option_or o (cond b (Some n) None)) ≡ msize_in o
joined_msize n true None e = e
joined_msize n false None e = refl
joined_msize n true (Some s) e = refl
joined_msize n false (Some s) e = refl

join_msize : (t : Tables) (c conn : ℕ) → msize_of (after_join t c) conn ≡ msize_of t conn
join_msize t c conn =
    let n : Session = record { conn = c; msize = None; fids = [] } in
    ap msize_in (find-append (is_session conn) t.sessions (n ∷ []))
    ∙ joined_msize n (eqb c conn) (find (is_session conn) t.sessions) refl

module _ (f : Session → Session) (conn_same : (s : Session) → (f s).conn ≡ s.conn)
    (msize_same : (s : Session) → (f s).msize ≡ s.msize) where
  changed_msize : (o : Option Session) → msize_in (option_map f o) ≡ msize_in o
  changed_msize None = refl
  changed_msize (Some s) = msize_same s

  on_msize : (ss : List Session) (c conn : ℕ) → msize_in (find (is_session conn) (on_session f c ss))
      ≡ msize_in (find (is_session conn) ss)
  on_msize ss c conn =
      elim (eqb conn c) as (λ b. eqb conn c ≡ b → msize_in (find (is_session conn) (on_session f c ss))
      ≡ msize_in (find (is_session conn) ss)) [
        | true ↦ λ e. let at : conn ≡ c = eqb-true conn c e in
            subst (λ (x : ℕ). msize_in (find (is_session x) (on_session f c ss)) ≡ msize_in (find (is_session x) ss))
            (sym at)
            (ap msize_in (find_changed f conn_same ss c) ∙ changed_msize (find (is_session c) ss))
        | false ↦ λ e. ap msize_in (find_other f conn_same ss c conn (eqb-false conn c e))
      ] refl

in_version : (t : Tables) (c : ℕ) (msize : Option ℕ) → AreInSession t → AreInSession (after_version t c msize)
in_version t c msize h =
    let ws : List Waiting = filter (λ w. not (is_waiting_on c w)) t.waiting in
    let kept : All (InSession t) ws = All-filter (λ w. not (is_waiting_on c w)) (InSession t) t.waiting h in
    let apart : All (λ w. not (is_waiting_on c w) ≡ true) ws = filter_passes (λ w. not (is_waiting_on c w)) t.waiting in
    λ k d l. let w : Waiting = slice_index_or ws k d in
    let off : w.conn ≢ c = eqb-false w.conn c (not-true (is_waiting_on c w) (apart k d l)) in
    ap (λ (o : Option Session). is_there (msize_in o)) (find_other (begun msize) (λ s. refl) t.sessions c w.conn off)
    ∙ kept k d l

in_grown : (t : Tables) (conn : ℕ) (e : Effect) → AreInSession t → AreInSession (grown_with t conn e)
in_grown t conn effect.Nothing h = h
in_grown t conn (effect.Begins msize) h = h
in_grown t conn (effect.Puts number fid) h = same_in t (grown_with t conn (effect.Puts number fid))
    (λ c. on_msize (put_in number fid) (λ s. refl) (λ s. refl) t.sessions conn c) t.waiting h
in_grown t conn (effect.Frees number) h = h

grown_msize : (t : Tables) (conn : ℕ) (e : Effect) (c : ℕ) → msize_of (grown_with t conn e) c ≡ msize_of t c
grown_msize t conn effect.Nothing c = refl
grown_msize t conn (effect.Begins msize) c = refl
grown_msize t conn (effect.Puts number fid) c = on_msize (put_in number fid) (λ s. refl) (λ s. refl) t.sessions conn c
grown_msize t conn (effect.Frees number) c = refl

in_freed : (t : Tables) (conn : ℕ) (e : Effect) → AreInSession t → AreInSession (ended_with t conn e)
in_freed t conn effect.Nothing h = h
in_freed t conn (effect.Begins msize) h = in_version t conn msize h
in_freed t conn (effect.Puts number fid) h = h
in_freed t conn (effect.Frees number) h = same_in t (ended_with t conn (effect.Frees number))
    (λ c. on_msize (taken_from number) (λ s. refl) (λ s. refl) t.sessions conn c) t.waiting h

in_ended : (t : Tables) (xs : List Response) → AreInSession t → AreInSession (ended t xs)
in_ended t xs h = same_in t (ended t xs) (by_sessions t (ended t xs) (done_sessions t xs)) (ended t xs).waiting
    (done_waiting (InSession t) t xs h)

in_cancelled : (t : Tables) (conn : ℕ) (e : EventChange) → AreInSession t → AreInSession (without_cancelled t conn e)
in_cancelled t conn e h =
    same_in t (without_cancelled t conn e) (by_sessions t (without_cancelled t conn e) (cancelled_sessions t conn e))
    (without_cancelled t conn e).waiting
    (cancelled_waiting (InSession t) t conn e h)

in_waits : (t : Tables) (o : Option RBody) (conn tag fid : ℕ) → HasSession t conn → AreInSession t
    → AreInSession (waits_unless o t conn tag fid)
in_waits t o conn tag fid own h =
    same_in t (waits_unless o t conn tag fid) (by_sessions t (waits_unless o t conn tag fid)
    (waits_sessions o t conn tag fid)) (waits_unless o t conn tag fid).waiting
    (waits_waiting (InSession t) o t conn tag fid own h)

in_answered : (t : Tables) (b : BookState) (conn tag : ℕ) (a : Option Answer)
    → ((fid opening count : ℕ) → a ≡ Some (Reads fid opening count) → HasSession t conn) → AreInSession t
    → AreInSession (answer_tables t b conn tag a)
in_answered t b conn tag None own h = h
in_answered t b conn tag (Some (Says body)) own h = h
in_answered t b conn tag (Some (Reads fid opening count)) own h = in_waits t
    (read_said t b (asker_of conn tag opening count)) conn tag fid (own fid opening count refl) h
in_answered t b conn tag (Some (ReadsPort fid opening count)) own h = h
in_answered t b conn tag (Some (ReadsWatch fid opening count)) own h = h

in_asked : (t : Tables) (p : PortsState) (conn tag : ℕ) (a : Option Answer)
    → ((fid opening count : ℕ) → a ≡ Some (ReadsPort fid opening count) → HasSession t conn) → AreInSession t
    → AreInSession (asked_tables t p (port_read_in conn tag a))
in_asked t p conn tag None own h = h
in_asked t p conn tag (Some (Says body)) own h = h
in_asked t p conn tag (Some (Reads fid opening count)) own h = h
in_asked t p conn tag (Some (ReadsPort fid opening count)) own h = in_waits t
    (port_said t p (asker_of conn tag opening count)) conn tag fid (own fid opening count refl) h
in_asked t p conn tag (Some (ReadsWatch fid opening count)) own h = h

in_followed : (t : Tables) (w : WatchState) (conn tag : ℕ) (a : Option Answer) (at : ℕ)
    → ((fid : ℕ) (opening : WatchOpening) (count : ℕ) → a ≡ Some (ReadsWatch fid opening count) → HasSession t conn)
    → AreInSession t → AreInSession (followed_tables t w (watch_read_in conn tag a at))
in_followed t w conn tag None at own h = h
in_followed t w conn tag (Some (Says body)) at own h = h
in_followed t w conn tag (Some (Reads fid opening count)) at own h = h
in_followed t w conn tag (Some (ReadsPort fid opening count)) at own h = h
in_followed t w conn tag (Some (ReadsWatch fid opening count)) at own h = in_waits t
    (watch_said t w (watch_asked conn tag opening count)) conn tag fid (own fid opening count refl) h

answered_msize : (t : Tables) (b : BookState) (conn tag : ℕ) (a : Option Answer) (c : ℕ)
    → msize_of (answer_tables t b conn tag a) c ≡ msize_of t c
answered_msize t b conn tag None c = refl
answered_msize t b conn tag (Some (Says body)) c = refl
answered_msize t b conn tag (Some (Reads fid opening count)) c =
    let o : Option RBody = read_said t b (asker_of conn tag opening count) in
    by_sessions t (waits_unless o t conn tag fid) (waits_sessions o t conn tag fid) c
answered_msize t b conn tag (Some (ReadsPort fid opening count)) c = refl
answered_msize t b conn tag (Some (ReadsWatch fid opening count)) c = refl

asked_msize : (t : Tables) (p : PortsState) (conn tag : ℕ) (a : Option Answer) (c : ℕ)
    → msize_of (asked_tables t p (port_read_in conn tag a)) c ≡ msize_of t c
asked_msize t p conn tag None c = refl
asked_msize t p conn tag (Some (Says body)) c = refl
asked_msize t p conn tag (Some (Reads fid opening count)) c = refl
asked_msize t p conn tag (Some (ReadsPort fid opening count)) c =
    let o : Option RBody = port_said t p (asker_of conn tag opening count) in
    by_sessions t (waits_unless o t conn tag fid) (waits_sessions o t conn tag fid) c
asked_msize t p conn tag (Some (ReadsWatch fid opening count)) c = refl

-- ---- a read is asked in a session

says_or : (b : Bool) (d e : Reaction) → is_reads d.answer ≡ false → is_reads e.answer ≡ false →
    is_reads (cond b d e).answer ≡ false
says_or true d e g h = g
says_or false d e g h = h

version_says : (msize : ℕ) (version : List ℕ) → is_reads (version_reaction msize version).answer ≡ false
version_says msize version =
    says_or (nat_lt msize 256) (refusal_with_effect (effect.Begins None) refusal.MsizeTooSmall)
    (agreement (min msize 65560) version) refl
    (says_or (is_version version) (does (effect.Begins (Some (min msize 65560))) []
    (r.Version (min msize 65560) (codes "9P2000")))
    (does (effect.Begins None) [] (r.Version (min msize 65560) (codes "unknown"))) refl refl)

-- what a message does, by whether a session is missing
abbrev reaction_or : ServerState → TBody → Bool → Reaction
reaction_or server body missing =
    cond (needs_session body && missing) (refusal_reaction refusal.VersionFirst)
    (reaction_or_refusal (session_reaction server body))

missing_says : (server : ServerState) (body : TBody) → is_reads (reaction_or server body true).answer ≡ false
missing_says server (t.Version msize version) = version_says msize version
missing_says server (t.Auth afid uname aname) = refl
missing_says server (t.Flush oldtag) = refl
missing_says server (t.Attach fid afid uname aname) = refl
missing_says server (t.Walk fid newfid names) = refl
missing_says server (t.Open fid mode) = refl
missing_says server (t.Create fid name perm mode) = refl
missing_says server (t.Read fid offset count) = refl
missing_says server (t.Write fid offset bytes) = refl
missing_says server (t.Clunk fid) = refl
missing_says server (t.Remove fid) = refl
missing_says server (t.Stat fid) = refl
missing_says server (t.Wstat fid stat) = refl

asked_in : (server : ServerState) (body : TBody) (a : Answer) (there : Bool)
    → (reaction_or server body (not there)).answer ≡ a → is_reads a ≡ true → there ≡ true
asked_in server body a true h reads = refl
asked_in server body a false h reads =
    absurd (false≢true (sym (missing_says server body) ∙ ap is_reads h ∙ reads))

-- ---- one event

in_message : (s : State) (conn : ℕ) (msg : TMsg) → AreInSession s.tables
    → AreInSession (step s (event.Msg conn msg)).tables
unfolding step
in_message s conn msg h =
    let p : Present = present s in
    let done : Reaction = reaction_at p conn msg in
    let d : Doing = doing_of p (event.Msg conn msg) in
    let o : Origin = message_origin s.tables conn msg.body in
    let put : Tables = grown_with s.tables conn d.effect in
    let read : Tables = answer_tables put s.scene.book conn msg.tag d.answer in
    let asked : Tables = asked_tables read (acted p d).ports (port_read_in conn msg.tag d.answer) in
    let followed : Tables = followed_tables asked (acted p d).watch
    (watch_read_in conn msg.tag d.answer (next_entry p)) in
    let left : Tables = ended_with followed conn d.effect in
    let xs : List Response = said p (kind.Asks conn msg.tag) d in
    let session : (a : Answer) → done.answer ≡ a → is_reads a ≡ true → HasSession put conn = λ a same reads.
    ap is_there (grown_msize s.tables conn d.effect conn)
    ∙ asked_in (server_at p conn) msg.body a (is_there (msize_of s.tables conn)) same reads
    in
    in_cancelled (ended left xs) conn d.events
    (in_ended left xs
    (in_freed followed conn d.effect
    (in_followed asked (acted p d).watch conn msg.tag d.answer (next_entry p)
    (λ fid opening count is. ap is_there (asked_msize read (acted p d).ports conn msg.tag d.answer conn
    ∙ answered_msize put s.scene.book conn msg.tag d.answer conn)
    ∙ session (ReadsWatch fid opening count) (message_reads p done o (ReadsWatch fid opening count) refl is) refl)
    (in_asked read (acted p d).ports conn msg.tag d.answer
    (λ fid opening count is. ap is_there (answered_msize put s.scene.book conn msg.tag d.answer conn)
    ∙ session (ReadsPort fid opening count) (message_reads p done o (ReadsPort fid opening count) refl is) refl)
    (in_answered put s.scene.book conn msg.tag d.answer
    (λ fid opening count is. session (Reads fid opening count)
    (message_reads p done o (Reads fid opening count) refl is) refl)
    (in_grown s.tables conn d.effect h))))))

in_step : (s : State) (e : Event) → AreInSession s.tables → AreInSession (step s e).tables
unfolding step
in_step s (event.Dial conn) h =
    in_ended (after_join s.tables conn) (said (present s) (kind.Dials conn) (doing_of (present s) (event.Dial conn)))
    (same_in s.tables (after_join s.tables conn) (join_msize s.tables conn) s.tables.waiting h)
in_step s (event.Msg conn msg) h = in_message s conn msg h
in_step s (event.Hang conn why) h =
    in_ended (after_hangup s.tables conn) (said (present s) (kind.Ends conn why)
    (doing_of (present s) (event.Hang conn why))) (in_version s.tables conn None h)
in_step s (event.Took conn) h = in_ended s.tables (said (present s) (kind.Takes conn)
    (doing_of (present s) (event.Took conn))) h
in_step s event.New h = in_ended s.tables (said (present s) kind.Acts (doing_of (present s) event.New)) h
in_step s (event.Key w side text) h = in_ended s.tables (said (present s) kind.Acts
    (doing_of (present s) (event.Key w side text))) h
in_step s (event.Sel w range) h = in_ended s.tables (said (present s) kind.Acts
    (doing_of (present s) (event.Sel w range))) h
in_step s (event.Exec at) h = in_ended s.tables (said (present s) kind.Acts (doing_of (present s) (event.Exec at))) h
in_step s (event.Arg at chord) h = in_ended s.tables (said (present s) kind.Acts
    (doing_of (present s) (event.Arg at chord))) h
in_step s (event.Look at) h = in_ended s.tables (said (present s) kind.Acts (doing_of (present s) (event.Look at))) h
in_step s (event.File path text) h = in_ended s.tables (said (present s) kind.Acts
    (doing_of (present s) (event.File path text))) h
in_step s (event.Dir path) h = in_ended s.tables (said (present s) kind.Acts (doing_of (present s) (event.Dir path))) h

in_fold : (s : State) (events : List Event) → AreInSession s.tables → AreInSession (fold step s events).tables
in_fold s [] h = h
in_fold s (e ∷ events) h = in_fold (step s e) events (in_step s e h)

in_run : (journal : Journal) → AreInSession (run journal).tables
unfolding run
in_run journal = in_fold (start_of journal.format) journal.events
    (All-nil (InSession (start_of journal.format).tables))

-- ---- a Tflush

any_session : (t : Tables) (conn tag : ℕ) (ws : List Waiting) → All (InSession t) ws
    → list_any (is_waiting conn tag) ws ≡ true → HasSession t conn
any_session t conn tag [] all h = absurd (false≢true h)
any_session t conn tag (w ∷ ws) all h =
    elim (eqb w.conn conn) as (λ b. eqb w.conn conn ≡ b → ((b && eqb w.tag tag) || list_any (is_waiting conn tag) ws)
    ≡ true → HasSession t conn) [
      | true ↦ λ e k. subst (λ (c : ℕ). HasSession t c) (eqb-true w.conn conn e) (All-head (InSession t) w ws all)
      | false ↦ λ e k. any_session t conn tag ws (All-tail (InSession t) w ws all) k
    ] refl h

-- nothing is served, since no read that waits can be answered
flush_says : (s : Present) (conn tag oldtag : ℕ) → as_asked s.tables (served_all (next_entry s)
    (put_living [] s.scene.book s.scene.items) ∷ ports_served s.scene.ports
    ∷ watch_served (next_entry s) s.scene.watch ∷ []) ≡ []
    → said s (kind.Asks conn tag) (message_doing s (flush_reaction oldtag) F) ≡ flushed conn tag ∷ []
unfolding task_deeds task_refusal
flush_says s conn tag oldtag none = ap (λ (xs : List Response). flushed conn tag ∷ xs) none

pub flushes_answered : FlushesAreAnswered
flushes_answered before conn tag oldtag waits =
    let s : Present = present (run before) in
    let there : is_there (msize_of s.tables conn) ≡ true = any_session s.tables conn oldtag s.tables.waiting
    (in_run before) waits in
    subst (λ (b : Bool). said s (kind.Asks conn tag) (message_doing s (flush_or (not b) oldtag) F) ≡ flushed conn
    tag ∷ []) (sym there)
    (flush_says s conn tag oldtag (silent_after before (next_entry s) s.tables))

pub ruleset answering = (flushes_answered)
