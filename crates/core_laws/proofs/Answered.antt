-- Each message is answered in its step, or is a read that waits.
use Rattle.std.proofs.Common.{◌≡◌, ◌⊎◌, inl, inr, ℕ, ◌+◌, Bool, true, false, cond, eqb, ◌&&◌, ◌||◌, List, [], ◌∷◌, ◌++◌}
use Rattle.std.proofs.Common.{slice_index_or, Option, Some, None, All, refl, sym, ap, subst, ◌∙◌, append_assoc}
use Rattle.std.proofs.Common.{append-nil, arith}
use Rattle.std.specs.List.{list_any}
use Rattle.std.proofs.lemmas.Bool.{both_ways, false_from_ne_true, or_left}
use Rattle.std.proofs.lemmas.Bool.Decides.{nat_tests}
use Rattle.std.proofs.lemmas.List.Elements.{All-nil, All-append, All-weaker}
use Rattle.std.proofs.lemmas.List.Folds.{list_any_at, list_any-append}
use Rattle.ninep_types.specs.declared.message.RBody.{RBody}
use Rattle.ninep_types.specs.declared.message.RBody.TheVariants as r
use Rattle.ninep_types.specs.declared.message.TBody.{TBody}
use Rattle.ninep_types.specs.declared.message.TMsg.{TMsg}
use Rattle.ninep_types.specs.Spelling.{kind_t}
use Rattle.fid_table.specs.declared.session.Waiting.{Waiting}
use Rattle.fid_table.specs.Tables.{Tables, is_waiting}
use Rattle.wait_queue.specs.declared.types.Asked.TheVariants.{Now, Waits}
use Rattle.wait_queue.specs.declared.types.Asker.{Asker}
use Rattle.wait_queue.specs.declared.types.Piece.{Piece}
use Rattle.acme_watch.specs.Watching.{WatchState, read_waits as watch_waits, piece_for as watch_piece}
use Rattle.acme_watch.specs.declared.types.WatchRead.{WatchRead}
use Rattle.win_events.specs.declared.item.Origin.{Origin}
use Rattle.event_book.specs.BookState.{BookState, is_living, read_waits, asked_of, piece_for}
use Rattle.am_journal.specs.declared.event.Event.{Event}
use Rattle.am_journal.specs.declared.event.Event.TheVariants as event
use Rattle.core_fids.specs.declared.effect.Answer.{Answer}
use Rattle.core_fids.specs.declared.effect.Answer.TheVariants.{Says, Reads, ReadsPort, ReadsWatch}
use Rattle.core_fids.specs.declared.effect.Demand.{Demand}
use Rattle.core_fids.specs.declared.effect.Demand.TheVariants as demand
use Rattle.core_fids.specs.declared.effect.Effect.{Effect}
use Rattle.core_fids.specs.declared.effect.Effect.TheVariants as effect
use Rattle.core_fids.specs.declared.effect.EventChange.{EventChange}
use Rattle.core_fids.specs.declared.effect.EventChange.TheVariants as events
use Rattle.core_fids.specs.declared.effect.Reaction.{Reaction}
use Rattle.core_fids.specs.declared.effect.WatchOpening.{WatchOpening}
use Rattle.core_fids.specs.declared.refusal.Refusal.{Refusal}
use Rattle.core_fids.specs.declared.refusal.Refusal.TheVariants as refusal
use Rattle.core_fids.specs.Plainly.{does}
use Rattle.core_fids.specs.Refusals.{refusal_text}
use Rattle.core_windows.specs.declared.change.Change.{Change}
use Rattle.core_scene.specs.Scenes.{deleted_by}
use Rattle.core_events.specs.declared.response.Response.{Response}
use Rattle.core_events.specs.Asking.{opened, reads_are_full, said_to, read_said, book_read, waits_unless}
use Rattle.core_events.specs.Putting.{put_living}
use Rattle.core_events.specs.Serving.{served_all}
use Rattle.plumb_ports.specs.PortsState.{PortsState, read_waits as port_waits, piece_for as port_piece}
use Rattle.core_events.specs.PortAsking.{read_refusal, said_unless, port_said, ports_read}
use Rattle.core_events.specs.PortServing.{ports_served}
use Rattle.core_events.specs.PortSound.{ArePortsIdle}
use Rattle.core_events.proofs.PortIdles.{none_said, idle_read}
use Rattle.core_events.specs.Waits.{clunked, deletions, ended}
use Rattle.core_events.proofs.Idles.{AreIdle, read_idle, idle_for, idle_end}
use Rattle.core_watch.specs.Asking.{read_refusal as watch_refusal, watch_said, watch_read}
use Rattle.core_watch.specs.Serving.{watch_served}
use Rattle.core_tasks.specs.Tasks.{task_deeds, task_refusal}
use Rattle.core_parts.specs.declared.kind.Kind.TheVariants as kind
use Rattle.core_intents.specs.Doings.{doing_of, entry_of, message_doing}
use Rattle.core_parts.specs.Doing.{Doing}
use Rattle.core_intents.specs.Intents.{reaction_at}
use Rattle.acme_core.specs.Laws.{HasAnswer, EachIsAnswered}
use Rattle.core_intents.specs.Origins.{message_origin}
use Rattle.acme_core.specs.Run.{step, run, present_after, enabled, AreEnabled}
use Rattle.core_steps.specs.PortReads.{port_read_in, if_port_said, asked_said, asked_ports}
use Rattle.core_steps.specs.WatchReads.{watch_asked, watch_read_in, if_watch_said, followed_said, followed_watch}
use Rattle.core_steps.specs.Stages.{response, asker_of, if_said, answer_said, answer_book, acted, with_fid, read_tables}
use Rattle.core_steps.specs.Stages.{port_tables, grown_tables, read_book, put_book, open_ports, open_watch, served}
use Rattle.core_steps.specs.Stages.{said, tables_after}
use Rattle.core_steps.proofs.Orders.{all_asked, none_asked}
use Rattle.core_parts.specs.States.{Present, State, present, next_entry}
use Rattle.acme_core.proofs.Goes.{run-push}
use Rattle.acme_core.proofs.Idling.{run_idle, ports_idle_after, watch_still_after}
use Rattle.acme_core.proofs.Watching.{IsStill, none_said as none_followed}
use Rattle.core_steps.proofs.Idling.{silent}
use Rattle.core_laws.specs.Answered.{IsAnswerTo, TellsAWait, SaysOnce, ReadsOnce, event_read, port_read}
use Rattle.core_laws.specs.Answered.{watch_read as watch_reads, IsAnsweredBy, MessagesAreAnswered}
use Rattle.core_laws.specs.Saying.{said_after, is_told}
use Rattle.core_laws.proofs.Answering.{message_reads}
use Rattle.core_laws.proofs.Books.{IsBook, book_opened, book_put_living}
use Rattle.core_laws.proofs.Ports.{joined_reads, acted_reads}
use Rattle.core_laws.proofs.Playing.{played_parts, played_first, no_items, silent_after, PlaysOn}
use Rattle.core_laws.proofs.Reactions.{ReadsSane, IsSane}
use Rattle.core_laws.proofs.Quiets.{IsQuiet, quiet_by}
use Rattle.core_laws.proofs.Tells.{Reading, Following, tell_clunked, tell_deletions, tell_served, tell_ports}
use Rattle.core_laws.proofs.Tells.{tell_follows}
use Rattle.core_laws.proofs.Stills.{still_read}
use Rattle.core_laws.proofs.Tied.{IsTiedState, tied_after}
use Rattle.core_laws.proofs.Versions.{on_version, tag_or_version}
use Rattle.core_laws.proofs.Watches.{acted_same, same_all, watches_all}
use Rattle.core_laws.proofs.Zips.{key_parts}
use Rattle.core_laws.proofs.Wells.{IsWell, opens_in, sane_in, well_after}
use Rattle.am_journal.specs.declared.event.Journal.{Journal}

-- ---- reads that wait are among those that wait

same_key : (conn tag : ℕ) → (eqb conn conn && eqb tag tag) ≡ true
same_key conn tag = grind (arith, nat_tests)

abbrev Waited : State → ℕ → ℕ → Type 0
Waited s conn tag = list_any (is_waiting conn tag) s.tables.waiting ≡ true

waiting_waits : (s : State) → All (λ (w : Waiting). Waited s w.conn w.tag) s.tables.waiting
waiting_waits s k d h =
    let w : Waiting = slice_index_or s.tables.waiting k d in
    list_any_at (is_waiting w.conn w.tag) s.tables.waiting k d h (same_key w.conn w.tag)

-- those of the files are those of the sessions
all_waited : (s : State) → IsTiedState s → IsQuiet (Waited s) s
all_waited s tied = quiet_by (Waited s) s tied.0 (waiting_waits s)

-- ---- between entries

-- no items are left, and no read that waits can be answered
record IsAtRest (s : State) : Type 0 where
  items : s.scene.items ≡ []
  events : AreIdle [] s.entries s.scene.book
  ports : ArePortsIdle s.scene.ports
  watch : IsStill s.scene.watch

at_rest : (before : Journal) → IsAtRest (run before)
at_rest before = record {
  items = no_items before;
  events = run_idle before;
  ports = ports_idle_after before;
  watch = watch_still_after before;
}

-- ---- what is said besides the answer

waited_book : (s : State) → IsAtRest s → IsQuiet (Waited s) s
    → IsBook (Reading (Waited s)) (next_entry (present s)) s.scene.book
waited_book s rest quiet =
    let idle : AreIdle [] s.entries s.scene.book = rest.events in
    record { lawful = idle.lawful; latest = omega (arith, idle.latest); reads = quiet.1 }

waited_put : (s : State) (conn tag : ℕ) (d : Doing) (body : RBody) → d.answer ≡ Some (Says body) → IsAtRest s
    → IsQuiet (Waited s) s
    → IsBook (Reading (Waited s)) (next_entry (present s)) (put_book (present s) (kind.Asks conn tag) d)
waited_put s conn tag d body is rest quiet =
    let p : Present = present s in
    let read : BookState = read_book p (kind.Asks conn tag) d in
    let same : read ≡ s.scene.book = ap (λ (a : Option Answer). answer_book (with_fid p (kind.Asks conn tag) d)
    s.scene.book conn tag a (next_entry p)) is in
    let book : IsBook (Reading (Waited s)) (next_entry p) read = subst (IsBook (Reading (Waited s)) (next_entry p))
    (sym same) (waited_book s rest quiet) in
    book_put_living (Reading (Waited s)) (next_entry p) (deleted_by d.deeds) (opened read d.events) (acted p d).items
    (book_opened (Reading (Waited s)) (next_entry p) read d.events book)

waited_open : (s : State) (conn tag : ℕ) (d : Doing) (body : RBody) → d.answer ≡ Some (Says body)
    → IsQuiet (Waited s) s → All (Reading (Waited s)) (open_ports (present s) (kind.Asks conn tag) d).reads
waited_open s conn tag d body is quiet =
    let p : Present = present s in
    let k = kind.Asks conn tag in
    let own : Asker → Type 0 = Reading (Waited s) in
    joined_reads own (asked_ports (read_tables p k d) (acted p d).ports (port_read_in conn tag d.answer)) d.events
    (subst (λ (a : Option Answer). All own (asked_ports (read_tables p k d) (acted p d).ports
    (port_read_in conn tag a)).reads) (sym is)
    (acted_reads own (entry_of p d) p.scene d.deeds quiet.2))

waited_watch : (s : State) (conn tag : ℕ) (d : Doing) (body : RBody) → d.answer ≡ Some (Says body)
    → IsQuiet (Waited s) s → All (Following (Waited s)) (open_watch (present s) (kind.Asks conn tag) d).reads
waited_watch s conn tag d body is quiet =
    let p : Present = present s in
    let k = kind.Asks conn tag in
    let w : WatchState = (acted p d).watch in
    let own : WatchRead → Type 0 = Following (Waited s) in
    watches_all own (followed_watch (port_tables p k d) w (watch_read_in conn tag d.answer (next_entry p))) d.events
    (subst (λ (a : Option Answer). All own (followed_watch (port_tables p k d) w
    (watch_read_in conn tag a (next_entry p))).reads) (sym is)
    (same_all own s.scene.watch w (acted_same (entry_of p d) p.scene d.deeds) quiet.3))

-- what is said before the answer, and behind it
abbrev front_of : Present → ℕ → Doing → List Response
front_of s conn d = clunked s.tables conn d.effect

abbrev rest_of : Present → ℕ → ℕ → Doing → List Response
rest_of s conn tag d = deletions s.tables (deleted_by d.deeds) ++ served s (kind.Asks conn tag) d

-- with a tag that no read has which waits, or where nothing else is said
abbrev IsAlone : State → ℕ → ℕ → Doing → Type 0
IsAlone s conn tag d = (list_any (is_waiting conn tag) s.tables.waiting ≡ false)
    ⊎ (front_of (present s) conn d ++ rest_of (present s) conn tag d ≡ [])

not_told : (s : State) (conn tag : ℕ) → list_any (is_waiting conn tag) s.tables.waiting ≡ false → (x : Response)
    → TellsAWait s x → is_told conn tag x ≡ false
not_told s conn tag none x tells =
    false_from_ne_true (is_told conn tag x) (λ is. let key : (x.conn ≡ conn)
    × (x.message.tag ≡ tag) = key_parts x.conn x.message.tag conn tag is in
    both_ways (list_any (is_waiting conn tag) s.tables.waiting) none
    (subst (λ (g : ℕ). list_any (is_waiting conn g) s.tables.waiting ≡ true) key.1
    (subst (λ (c : ℕ). list_any (is_waiting c x.message.tag) s.tables.waiting ≡ true) key.0 tells)))

none_told : (s : State) (conn tag : ℕ) (d : Doing) → IsAlone s conn tag d
    → All (TellsAWait s) (front_of (present s) conn d ++ rest_of (present s) conn tag d)
    → All (λ x. is_told conn tag x ≡ false) (front_of (present s) conn d ++ rest_of (present s) conn tag d)
none_told s conn tag d (inl none) others = All-weaker (TellsAWait s) (λ x. is_told conn tag x ≡ false)
    (not_told s conn tag none) (front_of (present s) conn d ++ rest_of (present s) conn tag d) others
none_told s conn tag d (inr empty) others = subst (All (λ (x : Response). is_told conn tag x ≡ false)) (sym empty)
    (All-nil (λ (x : Response). is_told conn tag x ≡ false))

says_once : (s : State) (conn tag : ℕ) (d : Doing) (body : RBody) → IsTiedState s → d.answer ≡ Some (Says body)
    → IsAtRest s → IsAlone s conn tag d
    → SaysOnce s conn tag body (said (present s) (kind.Asks conn tag) d)
says_once s conn tag d body tied is rest alone =
    let p : Present = present s in
    let k = kind.Asks conn tag in
    let at : ℕ = next_entry p in
    let quiet : IsQuiet (Waited s) s = all_waited s tied in
    let front : List Response = clunked s.tables conn d.effect in
    let gone : List Response = deletions s.tables (deleted_by d.deeds) in
    let later : List Response = served p k d in
    let one : List Response = front ++ response conn tag body ∷ [] in
    let told_gone : All (TellsAWait s) gone = tell_deletions (Waited s) s.tables (deleted_by d.deeds) (waiting_waits s)
    in
    let told_later : All (TellsAWait s) later =
    all_asked (TellsAWait s) (grown_tables p k d) (served_all at (put_book p k d)) (ports_served (open_ports p k d))
    (watch_served at (open_watch p k d))
    (tell_served (Waited s) at (put_book p k d) (waited_put s conn tag d body is rest quiet))
    (tell_ports (Waited s) (open_ports p k d) (waited_open s conn tag d body is quiet))
    (tell_follows (Waited s) at (open_watch p k d) (waited_watch s conn tag d body is quiet))
    in
    let others : All (TellsAWait s) (front ++ (gone ++ later)) =
    All-append (TellsAWait s) front (gone ++ later) (tell_clunked (Waited s) s.tables conn d.effect (waiting_waits s))
    (All-append (TellsAWait s) gone later told_gone told_later)
    in
    record {
      front = front;
      rest = gone ++ later;
      is = ap (λ (a : Option Answer). front ++ answer_said (with_fid p k d) s.scene.book conn tag a
          ++ asked_said (read_tables p k d) (acted p d).ports (port_read_in conn tag a)
          ++ followed_said (port_tables p k d) (acted p d).watch (watch_read_in conn tag a at) ++ gone ++ later) is
          ∙ ap (λ (xs : List Response). xs ++ gone ++ later) (append-nil (one ++ []) ∙ append-nil one)
          ∙ append_assoc one gone later
          ∙ append_assoc front (response conn tag body ∷ []) (gone ++ later);
      once = none_told s conn tag d alone others;
      others = others;
    }

-- a Tversion is answered alone
version_alone : (before : Journal) (conn tag : ℕ) (o : Origin) (msize : Option ℕ) (body : RBody)
    → front_of (present_after before) conn (message_doing (present_after before) (does (effect.Begins msize) [] body) o)
    ++ rest_of (present_after before) conn tag (message_doing (present_after before)
    (does (effect.Begins msize) [] body) o) ≡ []
unfolding task_deeds task_refusal
version_alone before conn tag o msize body =
    silent_after before (next_entry (present_after before))
    (grown_tables (present_after before) (kind.Asks conn tag)
    (message_doing (present_after before) (does (effect.Begins msize) [] body) o))

alone_by : (before : Journal) (conn : ℕ) (msg : TMsg) → AreEnabled before
    → enabled before (event.Msg conn msg) ≡ None → IsAlone (run before) conn msg.tag
    (doing_of (present_after before) (event.Msg conn msg))
alone_by before conn msg played allowed =
    let s : State = run before in
    let p : Present = present s in
    let o : Origin = message_origin s.tables conn msg.body in
    elim (tag_or_version p conn msg allowed) as (λ z. IsAlone s conn msg.tag (doing_of p (event.Msg conn msg))) [
      | inl none ↦ inl none
      | inr version ↦
          inr (on_version p conn (λ d. front_of p conn (message_doing p d o)
          ++ rest_of p conn msg.tag (message_doing p d o) ≡ [])
          (λ msize body. version_alone before conn msg.tag o msize body) msg.body version)
    ]

-- ---- a read of an event file

-- a reaction that reads does nothing else
reading : (s : Present) (o : Origin) (e : Effect) (v : EventChange) (cs : List Change) (m : Demand) (a read : Answer)
    → e ≡ effect.Nothing → v ≡ events.Nothing → cs ≡ [] → m ≡ demand.Nothing → a ≡ read
    → message_doing s (record { effect = e; events = v; changes = cs; demand = m; answer = a }) o
    ≡ message_doing s (record {
      effect = effect.Nothing;
      events = events.Nothing;
      changes = [];
      demand = demand.Nothing;
      answer = read;
    }) o
reading s o e v cs m a read fe fv fc fm fa =
    ap (λ (x : Effect). message_doing s (record { effect = x; events = v; changes = cs; demand = m; answer = a }) o) fe
    ∙ ap (λ (x : EventChange). message_doing s (record {
      effect = effect.Nothing;
      events = x;
      changes = cs;
      demand = m;
      answer = a;
    }) o) fv
    ∙ ap (λ (x : List Change). message_doing s (record {
      effect = effect.Nothing;
      events = events.Nothing;
      changes = x;
      demand = m;
      answer = a;
    }) o) fc
    ∙ ap (λ (x : Demand). message_doing s (record {
      effect = effect.Nothing;
      events = events.Nothing;
      changes = [];
      demand = x;
      answer = a;
    }) o) fm
    ∙ ap (λ (x : Answer). message_doing s (record {
      effect = effect.Nothing;
      events = events.Nothing;
      changes = [];
      demand = demand.Nothing;
      answer = x;
    }) o) fa

-- what such a reaction does
abbrev plainly : Present → Origin → Answer → Doing
plainly s o read = message_doing s (record {
  effect = effect.Nothing;
  events = events.Nothing;
  changes = [];
  demand =
      demand.Nothing;
  answer = read;
}) o

abbrev plain_read : Present → Origin → ℕ → ℕ → ℕ → Doing
plain_read s o fid opening count = plainly s o (Reads fid opening count)

read_served : (s : State) (t : Tables) (x : Asker) → AreIdle [] s.entries s.scene.book → s.scene.items ≡ []
    → served_all (next_entry (present s)) (put_living [] (book_read t s.scene.book x (next_entry (present s)))
    s.scene.items) ≡ []
read_served s t x idle none =
    let at : ℕ = next_entry (present s) in
    let read : AreIdle [] at (book_read t s.scene.book x at) = read_idle [] at t s.scene.book x
    (idle_for [] s.entries at s.scene.book (omega arith) idle) in
    silent at [] (book_read t s.scene.book x at) s.scene.items (idle_end at (book_read t s.scene.book x at) read) none

plain_said : (s : State) (o : Origin) (conn tag fid opening count : ℕ) → IsAtRest s
    → said (present s) (kind.Asks conn tag) (plain_read (present s) o fid opening count) ≡ if_said conn tag opening
    (read_said s.tables s.scene.book (asker_of conn tag opening count))
unfolding task_deeds task_refusal
plain_said s o conn tag fid opening count rest =
    let x : Asker = asker_of conn tag opening count in
    let at : ℕ = next_entry (present s) in
    let own : List Response = if_said conn tag opening (read_said s.tables s.scene.book x) in
    ap (λ (xs : List Response). own ++ [] ++ [] ++ [] ++ xs)
    (none_asked (grown_tables (present s) (kind.Asks conn tag) (plain_read (present s) o fid opening count))
    (served_all at (put_living [] (book_read s.tables s.scene.book x at) s.scene.items)) (ports_served s.scene.ports)
    (watch_served at s.scene.watch) (read_served s s.tables x rest.events rest.items)
    (none_said s.scene.ports rest.ports) (none_followed at s.scene.watch rest.watch.idle))
    ∙ append-nil (own ++ [] ++ [] ++ []) ∙ append-nil (own ++ [] ++ []) ∙ append-nil (own ++ []) ∙ append-nil own

or_second : (a b : Bool) → b ≡ true → (a || b) ≡ true
or_second true b h = refl
or_second false b h = h

-- one that waits is among those that do
one_waits : (t : Tables) (conn tag fid : ℕ) → list_any (is_waiting conn tag)
    (waits_unless None t conn tag fid).waiting ≡ true
one_waits t conn tag fid =
    list_any-append (is_waiting conn tag) t.waiting (record { conn = conn; tag = tag; fid = fid } ∷ [])
    ∙ or_second (list_any (is_waiting conn tag) t.waiting) ((eqb conn conn && eqb tag tag) || false)
    (or_left (eqb conn conn && eqb tag tag) false (same_key conn tag))

-- nothing is said to one that must wait
waits_for : (b : BookState) (x : Asker) (full waits : Bool) → said_to full
    (cond waits Waits (Now (piece_for b x))) ≡ None → waits ≡ true
waits_for b x full true h = refl
waits_for b x true false h = absurd cc
waits_for b x false false h = absurd cc

must_wait_for : (t : Tables) (b : BookState) (x : Asker) (living : Bool)
    → cond living (said_to (reads_are_full t x.conn) (asked_of b x))
    (Some (r.Error (refusal_text refusal.WindowDeleted))) ≡ None → read_waits b x ≡ true
must_wait_for t b x true h = waits_for b x (reads_are_full t x.conn) (read_waits b x) h
must_wait_for t b x false h = absurd cc

plain_waits : (s : State) (o : Origin) (conn tag fid opening count : ℕ) → IsAtRest s
    → read_said s.tables s.scene.book (asker_of conn tag opening count) ≡ None
    → list_any (is_waiting conn tag) (tables_after (present s) (kind.Asks conn tag)
    (plain_read (present s) o fid opening count)).waiting ≡ true
unfolding task_deeds task_refusal
plain_waits s o conn tag fid opening count rest waits =
    let x : Asker = asker_of conn tag opening count in
    let d : Doing = plain_read (present s) o fid opening count in
    let quiet : said (present s) (kind.Asks conn tag) d ≡ [] = plain_said s o conn tag fid opening count rest
    ∙ ap (if_said conn tag opening) waits in
    let has : Tables → Type 0 = λ t. list_any (is_waiting conn tag) t.waiting ≡ true in
    let there : has (waits_unless None s.tables conn tag fid) = one_waits s.tables conn tag fid in
    subst (λ (xs : List Response). has (ended (waits_unless (read_said s.tables s.scene.book x) s.tables conn tag fid)
    xs)) (sym quiet)
    (subst (λ (o : Option RBody). has (waits_unless o s.tables conn tag fid)) (sym waits) there)

-- what is said to one at once
said_answers : (asked : TBody) (b : BookState) (x : Asker) (full waits : Bool) (body : RBody) → kind_t asked ≡ 116
    → said_to full (cond waits Waits (Now (piece_for b x))) ≡ Some body → IsAnswerTo asked body
said_answers asked b x true true body tread is = let same : r.Error (refusal_text refusal.TooManyWaitingReads) ≡ body =
    cc in inr (refusal.TooManyWaitingReads, sym same)
said_answers asked b x false true body tread is = absurd cc
said_answers asked b x true false body tread is =
    let same : r.Read (piece_for b x).bytes ≡ body = cc in subst (IsAnswerTo asked) same
    (inl (ap (λ (n : ℕ). n + 1) (sym tread)))
said_answers asked b x false false body tread is =
    let same : r.Read (piece_for b x).bytes ≡ body = cc in subst (IsAnswerTo asked) same
    (inl (ap (λ (n : ℕ). n + 1) (sym tread)))

read_answers : (asked : TBody) (t : Tables) (b : BookState) (x : Asker) (living : Bool) (body : RBody)
    → kind_t asked ≡ 116
    → cond living (said_to (reads_are_full t x.conn) (asked_of b x))
    (Some (r.Error (refusal_text refusal.WindowDeleted))) ≡ Some body → IsAnswerTo asked body
read_answers asked t b x true body tread is = said_answers asked b x (reads_are_full t x.conn) (read_waits b x) body
    tread is
read_answers asked t b x false body tread is = let same : r.Error (refusal_text refusal.WindowDeleted) ≡ body = cc in
    inr (refusal.WindowDeleted, sym same)

-- ---- each message

stepped_tables : (s : State) (conn : ℕ) (msg : TMsg) → (step s (event.Msg conn msg)).tables ≡ tables_after (present s)
    (kind.Asks conn msg.tag) (doing_of (present s) (event.Msg conn msg))
unfolding step
stepped_tables s conn msg = refl

read_by : (before : Journal) (conn : ℕ) (msg : TMsg) (o : Origin) (fid opening count : ℕ) (said_now : Option RBody)
    → kind_t msg.body ≡ 116
    → doing_of (present_after before) (event.Msg conn msg) ≡ plain_read (present_after before) o fid opening count
    → read_said (run before).tables (run before).scene.book (asker_of conn msg.tag opening count) ≡ said_now
    → ReadsOnce before conn msg (event_read (run before) (asker_of conn msg.tag opening count)) said_now
read_by before conn msg o fid opening count (Some body) asks does is =
    let s : State = run before in
    let all : said_after before (event.Msg conn msg) ≡ if_said conn msg.tag opening (Some body) =
    ap (said (present s) (kind.Asks conn msg.tag)) does ∙ plain_said s o conn msg.tag fid opening count
    (at_rest before) ∙ ap (if_said conn msg.tag opening) is
    in (
      read_answers msg.body s.tables s.scene.book (asker_of conn msg.tag opening count) (is_living s.scene.book opening)
          body asks is,
      all,
    )
read_by before conn msg o fid opening count None asks does is =
    let s : State = run before in
    let e : Event = event.Msg conn msg in
    let has : Tables → Type 0 = λ t. list_any (is_waiting conn msg.tag) t.waiting ≡ true in
    let left : has (tables_after (present s) (kind.Asks conn msg.tag) (doing_of (present s) e)) =
    subst (λ (d : Doing). has (tables_after (present s) (kind.Asks conn msg.tag) d)) (sym does)
    (plain_waits s o conn msg.tag fid opening count (at_rest before) is)
    in
    record {
      silent = ap (said (present s) (kind.Asks conn msg.tag)) does
          ∙ plain_said s o conn msg.tag fid opening count (at_rest before)
          ∙ ap (if_said conn msg.tag opening) is;
      waits = subst (λ (t : State). has t.tables) (sym (run-push before e))
          (subst has (sym (stepped_tables s conn msg)) left);
      must = must_wait_for s.tables s.scene.book (asker_of conn msg.tag opening count) (is_living s.scene.book opening)
          is;
    }

reads_by : (before : Journal) (conn : ℕ) (msg : TMsg) (fid opening count : ℕ) → IsWell (run before)
    → kind_t msg.body ≡ 116
    → (doing_of (present_after before) (event.Msg conn msg)).answer ≡ Some (Reads fid opening count)
    → ReadsOnce before conn msg (event_read (run before) (asker_of conn msg.tag opening count))
    (read_said (run before).tables (run before).scene.book (asker_of conn msg.tag opening count))
reads_by before conn msg fid opening count well asks is =
    let s : State = run before in
    let p : Present = present s in
    let d : Reaction = reaction_at p conn msg in
    let o : Origin = message_origin s.tables conn msg.body in
    let same : d.answer ≡ Reads fid opening count = message_reads p d o (Reads fid opening count) refl is in
    let sane : IsSane (opens_in p) s.tables conn d = sane_in s conn msg well in
    let reads : ReadsSane s.tables conn d (Reads fid opening count) = subst (ReadsSane s.tables conn d) same sane.1 in
    read_by before conn msg o fid opening count (read_said s.tables s.scene.book (asker_of conn msg.tag opening count))
    asks
    (reading p o d.effect d.events d.changes d.demand d.answer (Reads fid opening count) reads.0 reads.2 reads.3 reads.4
    same) refl

-- ---- a read of a port

abbrev plain_port : Present → Origin → ℕ → ℕ → ℕ → Doing
plain_port s o fid opening count = plainly s o (ReadsPort fid opening count)

port_said_now : (s : State) (o : Origin) (conn tag fid opening count : ℕ) → IsAtRest s
    → said (present s) (kind.Asks conn tag) (plain_port (present s) o fid opening count)
    ≡ if_port_said (asker_of conn tag opening count) (port_said s.tables s.scene.ports
    (asker_of conn tag opening count))
unfolding task_deeds task_refusal
port_said_now s o conn tag fid opening count rest =
    let x : Asker = asker_of conn tag opening count in
    let own : List Response = if_port_said x (port_said s.tables s.scene.ports x) in
    let after : PortsState = ports_read s.tables s.scene.ports x in
    let at : ℕ = next_entry (present s) in
    ap (λ (xs : List Response). own ++ [] ++ [] ++ xs)
    (none_asked (grown_tables (present s) (kind.Asks conn tag) (plain_port (present s) o fid opening count))
    (served_all at (put_living [] s.scene.book s.scene.items)) (ports_served after) (watch_served at s.scene.watch)
    (silent at [] s.scene.book s.scene.items (idle_end s.entries s.scene.book rest.events) rest.items)
    (none_said after (idle_read s.tables s.scene.ports x rest.ports))
    (none_followed at s.scene.watch rest.watch.idle))
    ∙ append-nil (own ++ [] ++ []) ∙ append-nil (own ++ []) ∙ append-nil own

-- one to which nothing is said must wait
must_wait : (piece : Piece) (refusal : Option Refusal) (waits : Bool)
    → said_unless refusal (cond waits Waits (Now piece)) ≡ None → waits ≡ true
must_wait piece (Some refusal) waits h = absurd cc
must_wait piece None true h = refl
must_wait piece None false h = absurd cc

port_waits_on : (s : State) (o : Origin) (conn tag fid opening count : ℕ) → IsAtRest s
    → port_said s.tables s.scene.ports (asker_of conn tag opening count) ≡ None
    → list_any (is_waiting conn tag) (tables_after (present s) (kind.Asks conn tag)
    (plain_port (present s) o fid opening count)).waiting ≡ true
unfolding task_deeds task_refusal
port_waits_on s o conn tag fid opening count rest waits =
    let x : Asker = asker_of conn tag opening count in
    let d : Doing = plain_port (present s) o fid opening count in
    let quiet : said (present s) (kind.Asks conn tag) d ≡ [] = port_said_now s o conn tag fid opening count rest
    ∙ ap (if_port_said x) waits in
    let has : Tables → Type 0 = λ t. list_any (is_waiting conn tag) t.waiting ≡ true in
    subst (λ (xs : List Response). has (ended (waits_unless (port_said s.tables s.scene.ports x) s.tables conn tag fid)
    xs)) (sym quiet)
    (subst (λ (o : Option RBody). has (waits_unless o s.tables conn tag fid)) (sym waits)
    (one_waits s.tables conn tag fid))

unless_answers : (asked : TBody) (piece : Piece) (refusal : Option Refusal) (waits : Bool) (body : RBody)
    → kind_t asked ≡ 116
    → said_unless refusal (cond waits Waits (Now piece)) ≡ Some body → IsAnswerTo asked body
unless_answers asked piece (Some refusal) waits body tread is = let same : r.Error (refusal_text refusal) ≡ body = cc in
    inr (refusal, sym same)
unless_answers asked piece None true body tread is = absurd cc
unless_answers asked piece None false body tread is =
    let same : r.Read piece.bytes ≡ body = cc in subst (IsAnswerTo asked) same
    (inl (ap (λ (n : ℕ). n + 1) (sym tread)))

port_by : (before : Journal) (conn : ℕ) (msg : TMsg) (o : Origin) (fid opening count : ℕ) (said_now : Option RBody)
    → kind_t msg.body ≡ 116
    → doing_of (present_after before) (event.Msg conn msg) ≡ plain_port (present_after before) o fid opening count
    → port_said (run before).tables (run before).scene.ports (asker_of conn msg.tag opening count) ≡ said_now
    → ReadsOnce before conn msg (port_read (run before) (asker_of conn msg.tag opening count)) said_now
port_by before conn msg o fid opening count (Some body) asks does is =
    let s : State = run before in
    let x : Asker = asker_of conn msg.tag opening count in
    let all : said_after before (event.Msg conn msg) ≡ if_port_said x (Some body) =
    ap (said (present s) (kind.Asks conn msg.tag)) does ∙ port_said_now s o conn msg.tag fid opening count
    (at_rest before) ∙ ap (if_port_said x) is
    in (
      unless_answers msg.body (port_piece s.scene.ports x) (read_refusal s.tables s.scene.ports x)
          (port_waits s.scene.ports x) body asks is,
      all,
    )
port_by before conn msg o fid opening count None asks does is =
    let s : State = run before in
    let e : Event = event.Msg conn msg in
    let x : Asker = asker_of conn msg.tag opening count in
    let has : Tables → Type 0 = λ t. list_any (is_waiting conn msg.tag) t.waiting ≡ true in
    let left : has (tables_after (present s) (kind.Asks conn msg.tag) (doing_of (present s) e)) =
    subst (λ (d : Doing). has (tables_after (present s) (kind.Asks conn msg.tag) d)) (sym does)
    (port_waits_on s o conn msg.tag fid opening count (at_rest before) is)
    in
    record {
      silent = ap (said (present s) (kind.Asks conn msg.tag)) does
          ∙ port_said_now s o conn msg.tag fid opening count (at_rest before) ∙ ap (if_port_said x) is;
      waits = subst (λ (t : State). has t.tables) (sym (run-push before e))
          (subst has (sym (stepped_tables s conn msg)) left);
      must = must_wait (port_piece s.scene.ports x) (read_refusal s.tables s.scene.ports x)
          (port_waits s.scene.ports x) is;
    }

reads_port_by : (before : Journal) (conn : ℕ) (msg : TMsg) (fid opening count : ℕ) → IsWell (run before)
    → kind_t msg.body ≡ 116
    → (doing_of (present_after before) (event.Msg conn msg)).answer ≡ Some (ReadsPort fid opening count)
    → ReadsOnce before conn msg (port_read (run before) (asker_of conn msg.tag opening count))
    (port_said (run before).tables (run before).scene.ports (asker_of conn msg.tag opening count))
reads_port_by before conn msg fid opening count well asks is =
    let s : State = run before in
    let p : Present = present s in
    let d : Reaction = reaction_at p conn msg in
    let o : Origin = message_origin s.tables conn msg.body in
    let same : d.answer ≡ ReadsPort fid opening count = message_reads p d o (ReadsPort fid opening count) refl is in
    let sane : IsSane (opens_in p) s.tables conn d = sane_in s conn msg well in
    let reads : ReadsSane s.tables conn d (ReadsPort fid opening count) = subst (ReadsSane s.tables conn d) same
    sane.1 in
    port_by before conn msg o fid opening count (port_said s.tables s.scene.ports (asker_of conn msg.tag opening count))
    asks
    (reading p o d.effect d.events d.changes d.demand d.answer (ReadsPort fid opening count) reads.0 reads.2 reads.3
    reads.4 same) refl

-- ---- a read of `log` or of `jobs`

abbrev plain_watch : Present → Origin → ℕ → WatchOpening → ℕ → Doing
plain_watch s o fid opening count = plainly s o (ReadsWatch fid opening count)

watch_said_now : (s : State) (o : Origin) (conn tag fid : ℕ) (opening : WatchOpening) (count : ℕ) → IsAtRest s
    → said (present s) (kind.Asks conn tag) (plain_watch (present s) o fid opening count)
    ≡ if_watch_said (watch_asked conn tag opening count) (watch_said s.tables s.scene.watch
    (watch_asked conn tag opening count))
unfolding task_deeds task_refusal
watch_said_now s o conn tag fid opening count rest =
    let x : WatchRead = watch_asked conn tag opening count in
    let own : List Response = if_watch_said x (watch_said s.tables s.scene.watch x) in
    let at : ℕ = next_entry (present s) in
    let after : WatchState = watch_read s.tables s.scene.watch x at in
    ap (λ (xs : List Response). own ++ [] ++ xs)
    (none_asked (grown_tables (present s) (kind.Asks conn tag) (plain_watch (present s) o fid opening count))
    (served_all at (put_living [] s.scene.book s.scene.items)) (ports_served s.scene.ports) (watch_served at after)
    (silent at [] s.scene.book s.scene.items (idle_end s.entries s.scene.book rest.events) rest.items)
    (none_said s.scene.ports rest.ports)
    (none_followed at after (still_read s.tables s.scene.watch x at rest.watch)))
    ∙ append-nil (own ++ []) ∙ append-nil own

watch_waits_on : (s : State) (o : Origin) (conn tag fid : ℕ) (opening : WatchOpening) (count : ℕ) → IsAtRest s
    → watch_said s.tables s.scene.watch (watch_asked conn tag opening count) ≡ None
    → list_any (is_waiting conn tag) (tables_after (present s) (kind.Asks conn tag)
    (plain_watch (present s) o fid opening count)).waiting ≡ true
unfolding task_deeds task_refusal
watch_waits_on s o conn tag fid opening count rest waits =
    let x : WatchRead = watch_asked conn tag opening count in
    let d : Doing = plain_watch (present s) o fid opening count in
    let quiet : said (present s) (kind.Asks conn tag) d ≡ [] = watch_said_now s o conn tag fid opening count rest
    ∙ ap (if_watch_said x) waits in
    let has : Tables → Type 0 = λ t. list_any (is_waiting conn tag) t.waiting ≡ true in
    subst (λ (xs : List Response). has (ended (waits_unless (watch_said s.tables s.scene.watch x) s.tables conn tag fid)
    xs)) (sym quiet)
    (subst (λ (o : Option RBody). has (waits_unless o s.tables conn tag fid)) (sym waits)
    (one_waits s.tables conn tag fid))

watch_by : (before : Journal) (conn : ℕ) (msg : TMsg) (o : Origin) (fid : ℕ) (opening : WatchOpening) (count : ℕ)
    (said_now : Option RBody) → kind_t msg.body ≡ 116
    → doing_of (present_after before) (event.Msg conn msg) ≡ plain_watch (present_after before) o fid opening count
    → watch_said (run before).tables (run before).scene.watch (watch_asked conn msg.tag opening count) ≡ said_now
    → ReadsOnce before conn msg (watch_reads (run before) (watch_asked conn msg.tag opening count)) said_now
watch_by before conn msg o fid opening count (Some body) asks does is =
    let s : State = run before in
    let w : WatchState = s.scene.watch in
    let x : WatchRead = watch_asked conn msg.tag opening count in
    let all : said_after before (event.Msg conn msg) ≡ if_watch_said x (Some body) =
    ap (said (present s) (kind.Asks conn msg.tag)) does ∙ watch_said_now s o conn msg.tag fid opening count
    (at_rest before) ∙ ap (if_watch_said x) is
    in (
      unless_answers msg.body (watch_piece w x) (watch_refusal s.tables w x) (watch_waits w.log w.jobs x) body asks is,
      all,
    )
watch_by before conn msg o fid opening count None asks does is =
    let s : State = run before in
    let w : WatchState = s.scene.watch in
    let e : Event = event.Msg conn msg in
    let x : WatchRead = watch_asked conn msg.tag opening count in
    let has : Tables → Type 0 = λ t. list_any (is_waiting conn msg.tag) t.waiting ≡ true in
    let left : has (tables_after (present s) (kind.Asks conn msg.tag) (doing_of (present s) e)) =
    subst (λ (d : Doing). has (tables_after (present s) (kind.Asks conn msg.tag) d)) (sym does)
    (watch_waits_on s o conn msg.tag fid opening count (at_rest before) is)
    in
    record {
      silent = ap (said (present s) (kind.Asks conn msg.tag)) does
          ∙ watch_said_now s o conn msg.tag fid opening count (at_rest before) ∙ ap (if_watch_said x) is;
      waits = subst (λ (t : State). has t.tables) (sym (run-push before e))
          (subst has (sym (stepped_tables s conn msg)) left);
      must = must_wait (watch_piece w x) (watch_refusal s.tables w x) (watch_waits w.log w.jobs x) is;
    }

reads_watch_by : (before : Journal) (conn : ℕ) (msg : TMsg) (fid : ℕ) (opening : WatchOpening) (count : ℕ)
    → IsWell (run before) → kind_t msg.body ≡ 116
    → (doing_of (present_after before) (event.Msg conn msg)).answer ≡ Some (ReadsWatch fid opening count)
    → ReadsOnce before conn msg (watch_reads (run before) (watch_asked conn msg.tag opening count))
    (watch_said (run before).tables (run before).scene.watch (watch_asked conn msg.tag opening count))
reads_watch_by before conn msg fid opening count well asks is =
    let s : State = run before in
    let p : Present = present s in
    let d : Reaction = reaction_at p conn msg in
    let o : Origin = message_origin s.tables conn msg.body in
    let same : d.answer ≡ ReadsWatch fid opening count = message_reads p d o (ReadsWatch fid opening count) refl is in
    let sane : IsSane (opens_in p) s.tables conn d = sane_in s conn msg well in
    let reads : ReadsSane s.tables conn d (ReadsWatch fid opening count) = subst (ReadsSane s.tables conn d) same
    sane.1 in
    watch_by before conn msg o fid opening count
    (watch_said s.tables s.scene.watch (watch_asked conn msg.tag opening count)) asks
    (reading p o d.effect d.events d.changes d.demand d.answer (ReadsWatch fid opening count) reads.0 reads.2 reads.3
    reads.4 same) refl

-- ---- all messages

answered_by : (before : Journal) (conn : ℕ) (msg : TMsg) (a : Option Answer) → IsWell (run before)
    → IsTiedState (run before) → IsAlone (run before) conn msg.tag
    (doing_of (present_after before) (event.Msg conn msg)) → (doing_of (present_after before)
    (event.Msg conn msg)).answer ≡ a
    → HasAnswer msg.body a → IsAnsweredBy before conn msg a
answered_by before conn msg None well tied alone is has = has
answered_by before conn msg (Some (Says body)) well tied alone is has = (
  has,
  says_once (run before) conn msg.tag (doing_of (present_after before) (event.Msg conn msg)) body tied is
      (at_rest before) alone,
)
answered_by before conn msg (Some (Reads fid opening count)) well tied alone is has = reads_by before conn msg fid
    opening count well has is
answered_by before conn msg (Some (ReadsPort fid opening count)) well tied alone is has = reads_port_by before conn msg
    fid opening count well has is
answered_by before conn msg (Some (ReadsWatch fid opening count)) well tied alone is has = reads_watch_by before conn
    msg fid opening count well has is

pub messages_answered : EachIsAnswered → (journal : Journal) → AreEnabled journal → MessagesAreAnswered journal
messages_answered law journal played before behind conn msg is =
    let e : Event = event.Msg conn msg in
    let parts : AreEnabled before × PlaysOn before (e ∷ behind) = played_parts before (e ∷ behind)
    (subst AreEnabled (sym is) played) in
    answered_by before conn msg (doing_of (present_after before) e).answer (well_after before parts.0)
    (tied_after before parts.0) (alone_by before conn msg parts.0 (played_first before behind e parts.1).0) refl
    (law (present_after before) conn msg)
