-- What is true of the connection and the tag of each message, as long as messages come, is true of all that is said.
use Rattle.std.proofs.Common.{ℕ, ◌+◌, not, List, [], ◌∷◌, Option, Some, None, All, sym, subst}
use Rattle.std.proofs.lemmas.List.Elements.{All-nil, All-append, All-filter}
use Rattle.fid_table.specs.Tables.{Tables, fid_of, fids_of, is_waiting_on, after_hangup}
use Rattle.event_book.specs.BookState.{BookState}
use Rattle.am_journal.specs.declared.event.Event.{Event}
use Rattle.am_counter.specs.Played.{ArePlayed}
use Rattle.core_fids.specs.declared.effect.Answer.{Answer}
use Rattle.core_fids.specs.declared.effect.Answer.TheVariants.{Says, Reads, ReadsPort, ReadsWatch}
use Rattle.core_fids.specs.declared.effect.Effect.{Effect}
use Rattle.core_fids.specs.declared.effect.Effect.TheVariants as effect
use Rattle.core_events.specs.declared.response.Response.{Response}
use Rattle.core_events.specs.Asking.{read_said}
use Rattle.core_events.specs.Closing.{written_back, freed, opening_in}
use Rattle.core_events.specs.Waits.{ended}
use Rattle.core_scene.specs.Scenes.{deleted_by}
use Rattle.core_parts.specs.Connections.{grown_with, ended_with}
use Rattle.core_parts.specs.declared.kind.Kind.{Kind}
use Rattle.core_parts.specs.declared.kind.Kind.TheVariants as kind
use Rattle.plumb_ports.specs.PortsState.{PortsState}
use Rattle.core_events.specs.PortAsking.{port_said}
use Rattle.core_events.specs.PortClosing.{ports_freed}
use Rattle.core_steps.specs.PortReads.{port_read_in, port_read_of, asked_tables, asked_ports}
use Rattle.core_steps.specs.WatchReads.{watch_asked, watch_read_in, followed_tables, followed_watch}
use Rattle.acme_watch.specs.Watching.{WatchState}
use Rattle.core_watch.specs.Answering.{answered_with}
use Rattle.core_watch.specs.Asking.{watch_said}
use Rattle.core_laws.proofs.Ports.{read_reads, joined_reads, acted_reads, served_reads, cancelled_reads, freed_reads}
use Rattle.core_laws.proofs.Ports.{without_fids_reads}
use Rattle.core_intents.specs.Doings.{doing_of, entry_of}
use Rattle.core_parts.specs.Doing.{Doing}
use Rattle.core_parts.specs.Kinds.{kind_of}
use Rattle.acme_core.specs.Run.{step, run}
use Rattle.core_steps.specs.Stages.{asker_of, answer_book, answer_tables, acted, read_tables, port_tables, grown_tables}
use Rattle.core_steps.specs.Stages.{grown_book, open_ports, grown_ports, watch_read_at, open_watch, grown_watch}
use Rattle.core_steps.specs.Stages.{read_book, book_after, said}
use Rattle.core_closing.specs.Closing.{left_book, left_ports, closed_watch, ended_tables}
use Rattle.core_parts.specs.States.{Present, State, present, next_entry}
use Rattle.acme_core.proofs.Goes.{run-push}
use Rattle.core_fids.specs.Fids.{event_opening, port_opening, watch_opening}
use Rattle.core_laws.specs.Saying.{said_from}
use Rattle.core_laws.specs.Waits.{told, watch_told}
use Rattle.core_laws.proofs.Books.{IsBook, book_without, book_without_fids, book_cancelled, book_written, book_closed}
use Rattle.core_laws.proofs.Followers.{leaves_watch, left_watch_without}
use Rattle.core_laws.proofs.Tells.{Tells, Reading, Following, IsWaiting, OfMessage, tells}
use Rattle.core_laws.proofs.Ties.{Ties, reads_of, openings_of}
use Rattle.core_laws.proofs.Watches.{acted_same, answered_same, same_all, follow_all, watches_all, served_all_watch}
use Rattle.core_laws.proofs.Wells.{IsWell, later, done_waiting, cancelled_waiting, reading_book, waits_waiting}
use Rattle.core_laws.proofs.Wells.{items_book, well_step}
use Rattle.core_laws.proofs.Zips.{all_wait}
use Rattle.am_journal.specs.declared.event.Journal.{Journal}
use Rattle.am_journal.specs.Journal.{longer}
use Rattle.core_laws.specs.Fronts.{followed}
use Rattle.core_laws.proofs.Playing.{goes_on, none_more, PlaysOn}

module _ (L : ℕ → ℕ → Type 0) where
  -- it is true of each read that waits
  abbrev pub IsQuiet : State → Type 0
  IsQuiet s = All (IsWaiting L) s.tables.waiting × All (Reading L) s.scene.book.reads
      × All (Reading L) s.scene.ports.reads × All (Following L) s.scene.watch.reads

  -- so it is where it is true of those of the sessions
  pub quiet_by : (s : State) → Ties s.tables (reads_of s.scene.book s.scene.ports s.scene.watch)
      (openings_of s.scene.book s.scene.ports s.scene.watch) → All (IsWaiting L) s.tables.waiting → IsQuiet s
  quiet_by s ties h = (
    h,
    all_wait event_opening s.tables told L s.tables.waiting s.scene.book.reads ties.events h,
    all_wait port_opening s.tables told L s.tables.waiting s.scene.ports.reads ties.ports h,
    all_wait watch_opening s.tables watch_told L s.tables.waiting s.scene.watch.reads ties.watch h,
  )

  book_of : (s : State) → IsWell s → IsQuiet s → IsBook (Reading L) (s.entries + 1) s.scene.book
  book_of s well quiet = let b = later s well in record {
    lawful = b.book.lawful;
    latest = b.book.latest;
    reads =
        quiet.1;
  }

  -- ---- what grows

  put_waiting : (t : Tables) (conn : ℕ) (e : Effect) → All (IsWaiting L) t.waiting
      → All (IsWaiting L) (grown_with t conn e).waiting
  put_waiting t conn effect.Nothing h = h
  put_waiting t conn (effect.Begins msize) h = h
  put_waiting t conn (effect.Puts number fid) h = h
  put_waiting t conn (effect.Frees number) h = h

  answered_waiting : (t : Tables) (b : BookState) (conn tag : ℕ) (a : Option Answer) → L conn tag
      → All (IsWaiting L) t.waiting → All (IsWaiting L) (answer_tables t b conn tag a).waiting
  answered_waiting t b conn tag None own h = h
  answered_waiting t b conn tag (Some (Says body)) own h = h
  answered_waiting t b conn tag (Some (Reads fid opening count)) own h = waits_waiting (IsWaiting L)
      (read_said t b (asker_of conn tag opening count)) t conn tag fid own h
  answered_waiting t b conn tag (Some (ReadsPort fid opening count)) own h = h
  answered_waiting t b conn tag (Some (ReadsWatch fid opening count)) own h = h

  asked_waiting : (t : Tables) (p : PortsState) (conn tag : ℕ) (a : Option Answer) → L conn tag
      → All (IsWaiting L) t.waiting
      → All (IsWaiting L) (asked_tables t p (port_read_in conn tag a)).waiting
  asked_waiting t p conn tag None own h = h
  asked_waiting t p conn tag (Some (Says body)) own h = h
  asked_waiting t p conn tag (Some (Reads fid opening count)) own h = h
  asked_waiting t p conn tag (Some (ReadsPort fid opening count)) own h = waits_waiting (IsWaiting L)
      (port_said t p (asker_of conn tag opening count)) t conn tag fid own h
  asked_waiting t p conn tag (Some (ReadsWatch fid opening count)) own h = h

  followed_waiting : (t : Tables) (w : WatchState) (conn tag : ℕ) (a : Option Answer) (at : ℕ) → L conn tag
      → All (IsWaiting L) t.waiting
      → All (IsWaiting L) (followed_tables t w (watch_read_in conn tag a at)).waiting
  followed_waiting t w conn tag None at own h = h
  followed_waiting t w conn tag (Some (Says body)) at own h = h
  followed_waiting t w conn tag (Some (Reads fid opening count)) at own h = h
  followed_waiting t w conn tag (Some (ReadsPort fid opening count)) at own h = h
  followed_waiting t w conn tag (Some (ReadsWatch fid opening count)) at own h = waits_waiting (IsWaiting L)
      (watch_said t w (watch_asked conn tag opening count)) t conn tag fid own h

  asked_reads : (t : Tables) (p : PortsState) (conn tag : ℕ) (a : Option Answer) → L conn tag → All (Reading L) p.reads
      → All (Reading L) (asked_ports t p (port_read_in conn tag a)).reads
  asked_reads t p conn tag None own h = h
  asked_reads t p conn tag (Some (Says body)) own h = h
  asked_reads t p conn tag (Some (Reads fid opening count)) own h = h
  asked_reads t p conn tag (Some (ReadsPort fid opening count)) own h = read_reads (Reading L) t p
      (asker_of conn tag opening count) own h
  asked_reads t p conn tag (Some (ReadsWatch fid opening count)) own h = h

  followed_reads : (t : Tables) (w : WatchState) (conn tag : ℕ) (a : Option Answer) (at : ℕ) → L conn tag
      → All (Following L) w.reads → All (Following L) (followed_watch t w (watch_read_in conn tag a at)).reads
  followed_reads t w conn tag None at own h = h
  followed_reads t w conn tag (Some (Says body)) at own h = h
  followed_reads t w conn tag (Some (Reads fid opening count)) at own h = h
  followed_reads t w conn tag (Some (ReadsPort fid opening count)) at own h = h
  followed_reads t w conn tag (Some (ReadsWatch fid opening count)) at own h = follow_all (Following L) t w
      (watch_asked conn tag opening count) at own h

  answered_book : (at : ℕ) (t : Tables) (b : BookState) (conn tag : ℕ) (a : Option Answer) → L conn tag
      → IsBook (Reading L) at b → IsBook (Reading L) at (answer_book t b conn tag a at)
  answered_book at t b conn tag None own book = book
  answered_book at t b conn tag (Some (Says body)) own book = book
  answered_book at t b conn tag (Some (Reads fid opening count)) own book = reading_book (Reading L) at t b
      (asker_of conn tag opening count) own book
  answered_book at t b conn tag (Some (ReadsPort fid opening count)) own book = book
  answered_book at t b conn tag (Some (ReadsWatch fid opening count)) own book = book

  grown_waiting : (s : Present) (k : Kind) (d : Doing) → OfMessage L k → All (IsWaiting L) s.tables.waiting
      → All (IsWaiting L) (grown_tables s k d).waiting
  grown_waiting s (kind.Dials conn) d own h = h
  grown_waiting s (kind.Asks conn tag) d own h =
      followed_waiting (port_tables s (kind.Asks conn tag) d) (acted s d).watch conn tag d.answer (next_entry s) own
      (asked_waiting (read_tables s (kind.Asks conn tag) d) (acted s d).ports conn tag d.answer own
      (answered_waiting (grown_with s.tables conn d.effect) s.scene.book conn tag d.answer own
      (put_waiting s.tables conn d.effect h)))
  grown_waiting s (kind.Ends conn why) d own h = h
  grown_waiting s (kind.Takes conn) d own h = h
  grown_waiting s kind.Acts d own h = h

  quiet_read : (s : Present) (k : Kind) (d : Doing) → OfMessage L k → IsBook (Reading L) (next_entry s) s.scene.book
      → IsBook (Reading L) (next_entry s) (read_book s k d)
  quiet_read s (kind.Dials conn) d own book = book
  quiet_read s (kind.Asks conn tag) d own book = answered_book (next_entry s) (grown_with s.tables conn d.effect)
      s.scene.book conn tag d.answer own book
  quiet_read s (kind.Ends conn why) d own book = book
  quiet_read s (kind.Takes conn) d own book = book
  quiet_read s kind.Acts d own book = book

  -- the ports with what a message reads and opens
  message_reads : (s : Present) (k : Kind) (d : Doing) → OfMessage L k → All (Reading L) (acted s d).ports.reads
      → All (Reading L) (asked_ports (read_tables s k d) (acted s d).ports (port_read_of k d.answer)).reads
  message_reads s (kind.Dials conn) d own h = h
  message_reads s (kind.Asks conn tag) d own h = asked_reads (read_tables s (kind.Asks conn tag) d) (acted s d).ports
      conn tag d.answer own h
  message_reads s (kind.Ends conn why) d own h = h
  message_reads s (kind.Takes conn) d own h = h
  message_reads s kind.Acts d own h = h

  pub quiet_ports : (s : Present) (k : Kind) (d : Doing) → OfMessage L k → All (Reading L) s.scene.ports.reads
      → All (Reading L) (open_ports s k d).reads
  quiet_ports s k d own h =
      joined_reads (Reading L) (asked_ports (read_tables s k d) (acted s d).ports (port_read_of k d.answer)) d.events
      (message_reads s k d own (acted_reads (Reading L) (entry_of s d) s.scene d.deeds h))

  -- and the files `log` and `jobs`
  follows : (s : Present) (k : Kind) (d : Doing) → OfMessage L k → All (Following L) (acted s d).watch.reads
      → All (Following L) (followed_watch (port_tables s k d) (acted s d).watch (watch_read_at s k d)).reads
  follows s (kind.Dials conn) d own h = h
  follows s (kind.Asks conn tag) d own h = followed_reads (port_tables s (kind.Asks conn tag) d) (acted s d).watch conn
      tag d.answer (next_entry s) own h
  follows s (kind.Ends conn why) d own h = h
  follows s (kind.Takes conn) d own h = h
  follows s kind.Acts d own h = h

  pub quiet_watch : (s : Present) (k : Kind) (d : Doing) → OfMessage L k → All (Following L) s.scene.watch.reads
      → All (Following L) (open_watch s k d).reads
  quiet_watch s k d own h =
      watches_all (Following L) (followed_watch (port_tables s k d) (acted s d).watch (watch_read_at s k d)) d.events
      (follows s k d own (same_all (Following L) s.scene.watch (acted s d).watch
      (acted_same (entry_of s d) s.scene d.deeds) h))

  -- ---- what ends

  ended_reads : (at : ℕ) (t : Tables) (w : WatchState) (k : Kind) (d : Doing) → All (Following L) w.reads
      → All (Following L) (closed_watch at t k d w).reads
  ended_reads at t w k d h =
      let answered : WatchState = answered_with at w d.answers in
      subst (All (Following L)) (sym (left_watch_without at t k d answered))
      (All-filter (λ r. not (leaves_watch t k d r)) (Following L) answered.reads
      (same_all (Following L) w answered (answered_same at w d.answers) h))

  left_reads : (t : Tables) (p : PortsState) (k : Kind) (d : Doing) → All (Reading L) p.reads
      → All (Reading L) (left_ports t k d p).reads
  left_reads t p (kind.Dials conn) d h = h
  left_reads t p (kind.Asks conn tag) d h =
      cancelled_reads (Reading L) (ports_freed p t conn d.effect) conn d.events
      (freed_reads (Reading L) p t conn d.effect h)
  left_reads t p (kind.Ends conn why) d h = without_fids_reads (Reading L) p t conn h
  left_reads t p (kind.Takes conn) d h = h
  left_reads t p kind.Acts d h = h

  freed_waiting : (t : Tables) (conn : ℕ) (e : Effect) → All (IsWaiting L) t.waiting
      → All (IsWaiting L) (ended_with t conn e).waiting
  freed_waiting t conn effect.Nothing h = h
  freed_waiting t conn (effect.Begins msize) h = All-filter (λ w. not (is_waiting_on conn w)) (IsWaiting L) t.waiting h
  freed_waiting t conn (effect.Puts number fid) h = h
  freed_waiting t conn (effect.Frees number) h = h

  freed_book : (at : ℕ) (t : Tables) (b : BookState) (conn : ℕ) (e : Effect) → IsBook (Reading L) at b
      → IsBook (Reading L) at (freed at b t conn e)
  freed_book at t b conn effect.Nothing book = book
  freed_book at t b conn (effect.Begins msize) book = book_without_fids (Reading L) at b (fids_of t conn) book
  freed_book at t b conn (effect.Puts number fid) book = book
  freed_book at t b conn (effect.Frees number) book = book_without (Reading L) at b (opening_in (fid_of t conn number))
      book

  left_waiting : (t : Tables) (k : Kind) (d : Doing) (xs : List Response) → All (IsWaiting L) t.waiting
      → All (IsWaiting L) (ended_tables t k d xs).waiting
  left_waiting t (kind.Dials conn) d xs h = done_waiting (IsWaiting L) t xs h
  left_waiting t (kind.Asks conn tag) d xs h =
      let left : Tables = ended_with t conn d.effect in
      cancelled_waiting (IsWaiting L) (ended left xs) conn d.events
      (done_waiting (IsWaiting L) left xs (freed_waiting t conn d.effect h))
  left_waiting t (kind.Ends conn why) d xs h =
      done_waiting (IsWaiting L) (after_hangup t conn) xs (All-filter (λ w. not (is_waiting_on conn w)) (IsWaiting L)
      t.waiting h)
  left_waiting t (kind.Takes conn) d xs h = done_waiting (IsWaiting L) t xs h
  left_waiting t kind.Acts d xs h = done_waiting (IsWaiting L) t xs h

  quiet_left : (at : ℕ) (t : Tables) (b : BookState) (k : Kind) (d : Doing) → IsBook (Reading L) at b
      → IsBook (Reading L) at (left_book at t k d b)
  quiet_left at t b (kind.Dials conn) d book = book
  quiet_left at t b (kind.Asks conn tag) d book = book_cancelled (Reading L) at (freed at b t conn d.effect) conn
      d.events (freed_book at t b conn d.effect book)
  quiet_left at t b (kind.Ends conn why) d book = book_without_fids (Reading L) at b (fids_of t conn) book
  quiet_left at t b (kind.Takes conn) d book = book
  quiet_left at t b kind.Acts d book = book

  -- ---- one event

  pub quiet_says : (s : State) (e : Event) → OfMessage L (kind_of e) → IsWell s → IsQuiet s
      → All (Tells L) (said (present s) (kind_of e) (doing_of (present s) e))
  quiet_says s e own well quiet =
      tells L (present s) (kind_of e) (doing_of (present s) e) own
      (quiet_read (present s) (kind_of e) (doing_of (present s) e) own (book_of s well quiet))
      (quiet_ports (present s) (kind_of e) (doing_of (present s) e) own quiet.2)
      (quiet_watch (present s) (kind_of e) (doing_of (present s) e) own quiet.3) quiet.0

  pub quiet_step : (s : State) (e : Event) → OfMessage L (kind_of e) → IsWell s → IsQuiet s → IsQuiet (step s e)
  unfolding step
  quiet_step s e own well quiet =
      let p : Present = present s in
      let k : Kind = kind_of e in
      let d : Doing = doing_of p e in
      let at : ℕ = s.entries + 1 in
      let t : Tables = grown_tables p k d in
      let items : IsBook (Reading L) at (grown_book p k d) = items_book (Reading L) p k d
      (quiet_read p k d own (book_of s well quiet)) in
      let back : BookState = written_back at (grown_book p k d) d.back in
      let closed : IsBook (Reading L) at (book_after p k d) =
      book_closed (Reading L) at (left_book at t k d back) (deleted_by d.deeds)
      (quiet_left at t back k d (book_written (Reading L) at (grown_book p k d) d.back items))
      in (
        left_waiting t k d (said p k d) (grown_waiting p k d own quiet.0),
        closed.reads,
        left_reads t (grown_ports p k d) k d (served_reads (Reading L) (open_ports p k d)
            (quiet_ports p k d own quiet.2)),
        ended_reads at t (grown_watch p k d) k d (served_all_watch (Following L) at (open_watch p k d)
            (quiet_watch p k d own quiet.3)),
      )

  -- ---- all events

  abbrev pub OfMessages : List Event → Type 0
  OfMessages [] = Unit {0}
  OfMessages (e ∷ events) = OfMessage L (kind_of e) × OfMessages events

  pub quiet_all : (before : Journal) (events : List Event) → PlaysOn before events → OfMessages events
      → IsWell (run before) → IsQuiet (run before) → All (Tells L) (said_from before events)
  unfolding ArePlayed said_from
  quiet_all before [] played own well quiet = All-nil (Tells L)
  quiet_all before (e ∷ events) played own well quiet =
      All-append (Tells L) (said (present (run before)) (kind_of e) (doing_of (present (run before)) e))
      (said_from (longer before e) events) (quiet_says (run before) e own.0 well quiet)
      (quiet_all (longer before e) events played.2 own.1
      (subst IsWell (sym (run-push before e)) (well_step (run before) e played.1 well))
      (subst IsQuiet (sym (run-push before e)) (quiet_step (run before) e own.0 well quiet)))

  pub quiet_end : (before : Journal) (events : List Event) → PlaysOn before events → OfMessages events
      → IsWell (run before) → IsQuiet (run before) → IsQuiet (run (followed before events))
  unfolding ArePlayed
  quiet_end before [] played own well quiet = subst (λ (l : Journal). IsQuiet (run l)) (sym (none_more before))
      quiet
  quiet_end before (e ∷ events) played own well quiet =
      subst (λ (l : Journal). IsQuiet (run l)) (goes_on before e events)
      (quiet_end (longer before e) events played.2 own.1
      (subst IsWell (sym (run-push before e)) (well_step (run before) e played.1 well))
      (subst IsQuiet (sym (run-push before e)) (quiet_step (run before) e own.0 well quiet)))
