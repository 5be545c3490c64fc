-- After each journal of enabled events each fid is one of a connection that lives, and so is each read that waits;
-- those of event files are on openings of such fids.
use Rattle.std.proofs.Common.{◌≡◌, ◌≢◌, ◌⊎◌, inl, inr, ℕ, zero, suc, ◌+◌, Bool, true, false, not, cond, List, [], ◌∷◌}
use Rattle.std.proofs.Common.{slice_index_or, slice_set, Option, Some, None, All, refl, sym, ap, subst}
use Rattle.std.proofs.Common.{◌∙◌, arith}
use Rattle.std.specs.List.{filter}
use Rattle.std.proofs.lemmas.Bool.{eqb-false, not-true}
use Rattle.std.proofs.lemmas.List.Elements.{All-nil, All-push, All-filter, All-weaker, filter_passes}
use Rattle.ninep_types.specs.declared.message.TMsg.{TMsg}
use Rattle.ninep_types.specs.declared.message.RBody.{RBody}
use Rattle.fid_table.specs.declared.types.Fid.{Fid}
use Rattle.fid_table.specs.declared.session.Waiting.{Waiting}
use Rattle.fid_table.specs.Tables.{Tables, nothing, fid_of, fids_of, is_waiting, is_waiting_on, after_join, after_done}
use Rattle.fid_table.specs.Tables.{after_hangup, after_put, after_take, after_version}
use Rattle.core_scene.specs.declared.deed.WindowItem.{WindowItem}
use Rattle.core_scene.specs.Scenes.{deleted_by}
use Rattle.core_events.specs.declared.closing.BackItem.{BackItem}
use Rattle.wait_queue.specs.declared.types.Asker.{Asker}
use Rattle.win_events.specs.declared.item.Origin.{Origin}
use Rattle.wait_queue.specs.declared.types.Asked.{Asked}
use Rattle.wait_queue.specs.declared.types.Asked.TheVariants.{Now, Waits}
use Rattle.event_book.specs.BookState.{BookState, is_living, asked_of}
use Rattle.event_book.proofs.LawfulLemmas.{lawful-empty}
use Rattle.am_counter.specs.Played.{ArePlayed}
use Rattle.am_journal.specs.declared.ending.Ending.{Ending}
use Rattle.am_journal.specs.declared.event.Event.{Event}
use Rattle.am_journal.specs.declared.event.Event.TheVariants as event
use Rattle.am_journal.specs.declared.event.Why.{Why}
use Rattle.core_fids.specs.declared.effect.Answer.{Answer}
use Rattle.core_fids.specs.declared.effect.Answer.TheVariants.{Says, Reads, ReadsPort, ReadsWatch}
use Rattle.core_fids.specs.declared.effect.Reaction.{Reaction}
use Rattle.core_fids.specs.declared.effect.Effect.{Effect}
use Rattle.core_fids.specs.declared.effect.Effect.TheVariants as effect
use Rattle.core_fids.specs.declared.effect.EventChange.{EventChange}
use Rattle.core_fids.specs.declared.effect.EventChange.TheVariants as events
use Rattle.core_events.specs.declared.response.Response.{Response}
use Rattle.core_events.specs.Asking.{reads_are_full, read_said, book_asked, book_read, waits_unless}
use Rattle.core_events.specs.Closing.{written_back, freed, cancelled, closed_with, opening_in, without_fids}
use Rattle.core_events.specs.Closing.{without_opening}
use Rattle.core_events.specs.Putting.{ending}
use Rattle.core_events.specs.Serving.{book_served_all}
use Rattle.core_events.specs.Waits.{ended, without_cancelled}
use Rattle.core_parts.specs.declared.connection.Connection.{Connection}
use Rattle.core_parts.specs.declared.connection.Connection.TheVariants.{Undialed, Live, Ended}
use Rattle.core_parts.specs.declared.kind.Kind.{Kind}
use Rattle.core_parts.specs.declared.kind.Kind.TheVariants as kind
use Rattle.core_parts.specs.Connections.{connection_at, connections_after, is_live, grown_with, ended_with}
use Rattle.core_parts.specs.Kinds.{kind_of}
use Rattle.core_intents.specs.Doings.{enabled_at, doing_of, message_doing}
use Rattle.core_parts.specs.Doing.{Doing}
use Rattle.core_intents.specs.Intents.{reaction_at, server_at}
use Rattle.core_intents.specs.Origins.{message_origin}
use Rattle.core_intents.specs.Enabled.{first_why, live_refusal}
use Rattle.acme_core.specs.Run.{step, run, AreEnabled}
use Rattle.core_steps.specs.Stages.{asker_of, answer_book, answer_tables, acted, read_tables, port_tables, grown_tables}
use Rattle.core_steps.specs.Stages.{read_book}
use Rattle.core_steps.specs.Stages.{put_book, grown_book, tables_after, book_after, said}
use Rattle.core_closing.specs.Closing.{left_book, ended_tables}
use Rattle.core_parts.specs.States.{Present, State, present, next_entry, start_of}
use Rattle.acme_core.proofs.Goes.{run-push}
use Rattle.core_steps.proofs.Joins.{elsewhere}
use Rattle.core_laws.proofs.FileKinds.{of_event}
use Rattle.core_laws.proofs.Fids.{AllFids, no_fids, fids_weaker, fids_at, IsHeld, fids_join, fids_put, fids_take}
use Rattle.core_laws.proofs.Fids.{fids_version, fids_same, held_join, held_put, held_take, held_version, held_same}
use Rattle.plumb_ports.specs.PortsState.{PortsState}
use Rattle.core_fids.specs.Fids.{at_event, event_opening}
use Rattle.core_fids.specs.Plumbers.{plumber_of}
use Rattle.core_events.specs.PortAsking.{port_said}
use Rattle.core_windows.specs.Windows.{world_with}
use Rattle.core_intents.specs.Intents.{held_or, with_held, opened_at}
use Rattle.core_steps.specs.PortReads.{port_read_in, asked_tables}
use Rattle.core_steps.specs.WatchReads.{watch_asked, watch_read_in, followed_tables}
use Rattle.acme_watch.specs.Watching.{WatchState}
use Rattle.core_watch.specs.Asking.{watch_said}
use Rattle.core_laws.proofs.Answering.{message_reads, held_of}
use Rattle.core_laws.proofs.Books.{IsBook, IsApart, book_weaker, book_later, book_opened, book_put_living, book_put_all}
use Rattle.core_laws.proofs.Books.{book_ask, book_serve_all, book_without, book_without_fids, book_cancelled}
use Rattle.core_laws.proofs.Books.{book_written, book_closed, without_none, fids_none}
use Rattle.core_laws.proofs.Reactions.{IsModed, IsStill, PutsSane, IsNew, HasOpening, ReadsSane, IsSane, keeps}
use Rattle.core_laws.proofs.Reactions.{reaction_sane}
use Rattle.am_journal.specs.declared.event.Journal.{Journal}
use Rattle.am_journal.specs.Journal.{longer, journal_in}
use Rattle.core_laws.specs.Fronts.{followed}
use Rattle.core_laws.proofs.Playing.{goes_on, none_more, PlaysOn}
use Rattle.am_journal.specs.declared.event.Format.{Format}

-- ---- connections

abbrev pub Lives : List Connection → ℕ → Type 0
Lives cs conn = is_live (connection_at cs conn) ≡ true

live_if : (v : Connection) → live_refusal v ≡ None → is_live v ≡ true
live_if Undialed e = absurd cc
live_if Live e = refl
live_if (Ended why) e = absurd cc

first_none : (a b : Option Why) → first_why a b ≡ None → a ≡ None
first_none None b e = refl
first_none (Some w) b e = absurd cc

pub message_lives : (s : Present) (conn : ℕ) (msg : TMsg) → enabled_at s (event.Msg conn msg) ≡ None →
    Lives s.connections conn
message_lives s conn msg e = live_if (connection_at s.connections conn)
    (first_none (live_refusal (connection_at s.connections conn)) _ e)

-- a connection that is dialled lives, and the others stay
pub dial_lives : (cs : List Connection) (c x : ℕ) → Lives cs x → Lives (slice_set cs c Live) x
dial_lives [] c x h = h
dial_lives (v ∷ cs) zero zero h = refl
dial_lives (v ∷ cs) zero (suc x) h = h
dial_lives (v ∷ cs) (suc c) zero h = h
dial_lives (v ∷ cs) (suc c) (suc x) h = dial_lives cs c x h

hang_lives : (cs : List Connection) (c x : ℕ) (why : Ending) → x ≢ c → Lives cs x → Lives (slice_set cs c (Ended why)) x
hang_lives cs c x why apart h = ap is_live (elsewhere cs c x (Ended why) apart) ∙ h

-- ---- what holds after each journal

abbrev pub IsOfLive : List Connection → ℕ → Fid → Type 0
IsOfLive cs conn f = Lives cs conn × IsModed f

abbrev pub WaitsOnLive : List Connection → Waiting → Type 0
WaitsOnLive cs w = Lives cs w.conn

pub record AreWell (cs : List Connection) (t : Tables) (at : ℕ) (b : BookState) : Type 0 where
  pub fids : AllFids (IsOfLive cs) t
  pub waiting : All (WaitsOnLive cs) t.waiting
  pub book : IsBook (IsHeld event_opening t) at b

abbrev pub IsWell : State → Type 0
IsWell s = AreWell s.connections s.tables s.entries s.scene.book

-- ---- reads that wait no more

pub done_sessions : (t : Tables) (xs : List Response) → (ended t xs).sessions ≡ t.sessions
done_sessions t [] = refl
done_sessions t (x ∷ xs) = done_sessions (after_done t x.conn x.message.tag) xs

pub done_waiting : (P : Waiting → Type 0) (t : Tables) (xs : List Response) → All P t.waiting
    → All P (ended t xs).waiting
done_waiting P t [] h = h
done_waiting P t (x ∷ xs) h =
    done_waiting P (after_done t x.conn x.message.tag) xs (All-filter (λ w. not (is_waiting x.conn x.message.tag w)) P
    t.waiting h)

pub cancelled_sessions : (t : Tables) (conn : ℕ) (e : EventChange) → (without_cancelled t conn e).sessions ≡ t.sessions
cancelled_sessions t conn events.Nothing = refl
cancelled_sessions t conn (events.Opens w) = refl
cancelled_sessions t conn (events.Watches file) = refl
cancelled_sessions t conn (events.Cancels tag) = refl
cancelled_sessions t conn (events.Joins port) = refl

pub cancelled_waiting : (P : Waiting → Type 0) (t : Tables) (conn : ℕ) (e : EventChange) → All P t.waiting
    → All P (without_cancelled t conn e).waiting
cancelled_waiting P t conn events.Nothing h = h
cancelled_waiting P t conn (events.Opens w) h = h
cancelled_waiting P t conn (events.Joins port) h = h
cancelled_waiting P t conn (events.Watches file) h = h
cancelled_waiting P t conn (events.Cancels tag) h = All-filter (λ w. not (is_waiting conn tag w)) P t.waiting h

-- the same with reads that were answered
well_ended : (cs : List Connection) (t : Tables) (at : ℕ) (b : BookState) (xs : List Response) → AreWell cs t at b
    → AreWell cs (ended t xs) at b
well_ended cs t at b xs well = record {
  fids = fids_same (IsOfLive cs) t (ended t xs) (done_sessions t xs) well.fids;
  waiting = done_waiting (WaitsOnLive cs) t xs well.waiting;
  book = book_weaker (IsHeld event_opening t) (IsHeld event_opening (ended t xs)) at b
      (λ r h. held_same event_opening t (ended t xs) r (done_sessions t xs) h) well.book;
}

well_cancelled : (cs : List Connection) (t : Tables) (at : ℕ) (b : BookState) (conn : ℕ) (e : EventChange)
    → AreWell cs t at b → AreWell cs (without_cancelled t conn e) at (cancelled b conn e)
well_cancelled cs t at b conn e well = record {
  fids = fids_same (IsOfLive cs) t (without_cancelled t conn e) (cancelled_sessions t conn e) well.fids;
  waiting = cancelled_waiting (WaitsOnLive cs) t conn e well.waiting;
  book = book_weaker (IsHeld event_opening t) (IsHeld event_opening (without_cancelled t conn e)) at
      (cancelled b conn e) (λ r h. held_same event_opening t (without_cancelled t conn e) r
      (cancelled_sessions t conn e) h)
      (book_cancelled (IsHeld event_opening t) at b conn e well.book);
}

-- ---- what grows

well_grown : (New : Fid → Type 0) (cs : List Connection) (t : Tables) (at : ℕ) (b : BookState) (conn : ℕ) (e : Effect)
    → Lives cs conn → PutsSane New t conn e → AreWell cs t at b
    → AreWell cs (grown_with t conn e) at b
well_grown New cs t at b conn effect.Nothing live sane well = well
well_grown New cs t at b conn (effect.Begins msize) live sane well = well
well_grown New cs t at b conn (effect.Puts number fid) live sane well = record {
  fids = fids_put (IsOfLive cs) t conn number fid (live, sane.moded) well.fids;
  waiting = well.waiting;
  book = book_weaker (IsHeld event_opening t) (IsHeld event_opening (after_put t conn number fid)) at b
      (λ r h. held_put event_opening t conn number fid r (keeps at_event New t conn number fid of_event sane) h)
      well.book;
}
well_grown New cs t at b conn (effect.Frees number) live sane well = well

asked_book : (P : Asker → Type 0) (at : ℕ) (full : Bool) (asked : Asked) (b : BookState) (r : Asker)
    → is_living b r.opening ≡ true → P r → IsBook P at b
    → IsBook P at (book_asked full asked b r at)
asked_book P at full (Now piece) b r living own book = book_ask P at b r living own book
asked_book P at true Waits b r living own book = book
asked_book P at false Waits b r living own book = book_ask P at b r living own book

pub reading_book : (P : Asker → Type 0) (at : ℕ) (t : Tables) (b : BookState) (r : Asker) → P r → IsBook P at b
    → IsBook P at (book_read t b r at)
reading_book P at t b r own book =
    elim (is_living b r.opening) as (λ l. is_living b r.opening ≡ l → IsBook P at
    (cond l (book_asked (reads_are_full t r.conn) (asked_of b r) b r at) b)) [
      | true ↦ λ living. asked_book P at (reads_are_full t r.conn) (asked_of b r) b r living own book
      | false ↦ λ dead. book
    ] refl

pub waits_sessions : (o : Option RBody) (t : Tables) (conn tag fid : ℕ)
    → (waits_unless o t conn tag fid).sessions ≡ t.sessions
waits_sessions None t conn tag fid = refl
waits_sessions (Some x) t conn tag fid = refl

pub waits_waiting : (P : Waiting → Type 0) (o : Option RBody) (t : Tables) (conn tag fid : ℕ)
    → P (record { conn = conn; tag = tag; fid = fid }) → All P t.waiting
    → All P (waits_unless o t conn tag fid).waiting
waits_waiting P None t conn tag fid own h = All-push P t.waiting (record { conn = conn; tag = tag; fid = fid }) h own
waits_waiting P (Some x) t conn tag fid own h = h

-- a read is one of an opening that a fid has
unfoldable pub AsksSane : Tables → ℕ → ℕ → Option Answer → Type 0
AsksSane t conn tag a = (fid opening count : ℕ) → a ≡ Some (Reads fid opening count)
    → IsHeld event_opening t (asker_of conn tag opening count)

-- the same with a read that waits where nothing is said to it
well_waits : (cs : List Connection) (t : Tables) (at : ℕ) (b : BookState) (o : Option RBody) (conn tag fid : ℕ)
    → Lives cs conn → AreWell cs t at b → AreWell cs (waits_unless o t conn tag fid) at b
well_waits cs t at b o conn tag fid live well = record {
  fids = fids_same (IsOfLive cs) t (waits_unless o t conn tag fid) (waits_sessions o t conn tag fid) well.fids;
  waiting = waits_waiting (WaitsOnLive cs) o t conn tag fid live well.waiting;
  book = book_weaker (IsHeld event_opening t) (IsHeld event_opening (waits_unless o t conn tag fid)) at b
      (λ x h. held_same event_opening t (waits_unless o t conn tag fid) x (waits_sessions o t conn tag fid) h)
      well.book;
}

well_answered : (cs : List Connection) (t : Tables) (at : ℕ) (b : BookState) (conn tag : ℕ) (a : Option Answer)
    → Lives cs conn → AsksSane t conn tag a → AreWell cs t at b
    → AreWell cs (answer_tables t b conn tag a) at (answer_book t b conn tag a at)
unfolding AsksSane
well_answered cs t at b conn tag None live own well = well
well_answered cs t at b conn tag (Some (Says body)) live own well = well
well_answered cs t at b conn tag (Some (Reads fid opening count)) live own well =
    let r : Asker = asker_of conn tag opening count in
    let read : AreWell cs t at (book_read t b r at) = record {
      fids = well.fids;
      waiting = well.waiting;
      book = reading_book (IsHeld event_opening t) at t b r (own fid opening count refl) well.book;
    } in
    well_waits cs t at (book_read t b r at) (read_said t b r) conn tag fid live read
well_answered cs t at b conn tag (Some (ReadsPort fid opening count)) live own well = well
well_answered cs t at b conn tag (Some (ReadsWatch fid opening count)) live own well = well

-- the same with the read of a port
well_asked : (cs : List Connection) (t : Tables) (at : ℕ) (b : BookState) (p : PortsState) (conn tag : ℕ)
    (a : Option Answer) → Lives cs conn → AreWell cs t at b
    → AreWell cs (asked_tables t p (port_read_in conn tag a)) at b
well_asked cs t at b p conn tag None live well = well
well_asked cs t at b p conn tag (Some (Says body)) live well = well
well_asked cs t at b p conn tag (Some (Reads fid opening count)) live well = well
well_asked cs t at b p conn tag (Some (ReadsPort fid opening count)) live well =
    well_waits cs t at b (port_said t p (asker_of conn tag opening count)) conn tag fid live well
well_asked cs t at b p conn tag (Some (ReadsWatch fid opening count)) live well = well

-- and with that of `log` or `jobs`
well_followed : (cs : List Connection) (t : Tables) (at : ℕ) (b : BookState) (w : WatchState) (conn tag : ℕ)
    (a : Option Answer) → Lives cs conn → AreWell cs t at b
    → AreWell cs (followed_tables t w (watch_read_in conn tag a at)) at b
well_followed cs t at b w conn tag None live well = well
well_followed cs t at b w conn tag (Some (Says body)) live well = well
well_followed cs t at b w conn tag (Some (Reads fid opening count)) live well = well
well_followed cs t at b w conn tag (Some (ReadsPort fid opening count)) live well = well
well_followed cs t at b w conn tag (Some (ReadsWatch fid opening count)) live well =
    well_waits cs t at b (watch_said t w (watch_asked conn tag opening count)) conn tag fid live well

-- an opening joins, items come, and reads are served
pub items_book : (P : Asker → Type 0) (s : Present) (k : Kind) (d : Doing) → IsBook P (next_entry s) (read_book s k d)
    → IsBook P (next_entry s) (grown_book s k d)
items_book P s k d book =
    let at : ℕ = next_entry s in
    let items : List WindowItem = (acted s d).items in
    let put : IsBook P at (put_book s k d) = book_put_living P at (deleted_by d.deeds) _ items
    (book_opened P at (read_book s k d) d.events book) in
    book_put_all P at (book_served_all at (put_book s k d)) (ending (deleted_by d.deeds) items)
    (book_serve_all P at (put_book s k d) put)

well_items : (cs : List Connection) (t : Tables) (s : Present) (k : Kind) (d : Doing)
    → AreWell cs t (next_entry s) (read_book s k d) → AreWell cs t (next_entry s) (grown_book s k d)
well_items cs t s k d well = record {
  fids = well.fids;
  waiting = well.waiting;
  book =
      items_book (IsHeld event_opening t) s k d well.book;
}

-- ---- what ends

-- all fids of a connection are freed
freed_all : (t : Tables) (at : ℕ) (b : BookState) (conn : ℕ) (msize : Option ℕ) → IsBook (IsHeld event_opening t) at b
    → IsBook (IsHeld event_opening (after_version t conn msize)) at (without_fids at b t conn)
freed_all t at b conn msize book =
    let end : BookState = without_fids at b t conn in
    let kept : IsBook (IsHeld event_opening t) at end = book_without_fids (IsHeld event_opening t) at b (fids_of t conn)
    book in
    let apart : All (IsApart (fids_of t conn)) end.reads = fids_none (IsHeld event_opening t) at b (fids_of t conn)
    book in
    record {
      lawful = kept.lawful;
      latest = kept.latest;
      reads = λ k d h. (held_version event_opening t conn msize (slice_index_or end.reads k d)
          (λ number f same is opens. apart k d h number f is opens) (kept.reads k d h)).1;
    }

-- one of them is
freed_one : (t : Tables) (at : ℕ) (b : BookState) (conn number : ℕ) → IsBook (IsHeld event_opening t) at b
    → IsBook (IsHeld event_opening (after_take t conn number)) at (without_opening at b
    (opening_in (fid_of t conn number)))
freed_one t at b conn number book =
    let o : Option ℕ = opening_in (fid_of t conn number) in
    let end : BookState = without_opening at b o in
    let kept : IsBook (IsHeld event_opening t) at end = book_without (IsHeld event_opening t) at b o book in
    let apart : All (λ r. o ≡ Some r.opening → ⊥) end.reads = without_none at b o book.lawful in
    record {
      lawful = kept.lawful;
      latest = kept.latest;
      reads = λ k d h. held_take event_opening t conn number (slice_index_or end.reads k d)
          (λ f same is opens. apart k d h (ap opening_in is ∙ opens)) (kept.reads k d h);
    }

others_wait : (cs : List Connection) (ws : List Waiting) (conn : ℕ) → All (WaitsOnLive cs) ws
    → All (WaitsOnLive cs) (filter (λ w. not (is_waiting_on conn w)) ws)
others_wait cs ws conn h = All-filter (λ w. not (is_waiting_on conn w)) (WaitsOnLive cs) ws h

well_freed : (cs : List Connection) (t : Tables) (at : ℕ) (b : BookState) (conn : ℕ) (e : Effect) → AreWell cs t at b
    → AreWell cs (ended_with t conn e) at (freed at b t conn e)
well_freed cs t at b conn effect.Nothing well = well
well_freed cs t at b conn (effect.Begins msize) well = record {
  fids = fids_version (IsOfLive cs) (IsOfLive cs) t conn msize (λ c f apart h. h) well.fids;
  waiting = others_wait cs t.waiting conn well.waiting;
  book = freed_all t at b conn msize well.book;
}
well_freed cs t at b conn (effect.Puts number fid) well = well
well_freed cs t at b conn (effect.Frees number) well = record {
  fids = fids_take (IsOfLive cs) t conn number well.fids;
  waiting = well.waiting;
  book = freed_one t at b conn number well.book;
}

well_closed : (cs : List Connection) (t : Tables) (at : ℕ) (b : BookState) (o : List ℕ) → AreWell cs t at b
    → AreWell cs t at (closed_with at b o)
well_closed cs t at b o well = record {
  fids = well.fids;
  waiting = well.waiting;
  book =
      book_closed (IsHeld event_opening t) at b o well.book;
}

-- a hang-up
well_hung : (cs : List Connection) (t : Tables) (at : ℕ) (b : BookState) (conn : ℕ) (why : Ending) → AreWell cs t at b
    → AreWell (slice_set cs conn (Ended why)) (after_hangup t conn) at (without_fids at b t conn)
well_hung cs t at b conn why well =
    let ws : List Waiting = filter (λ w. not (is_waiting_on conn w)) t.waiting in
    let live : All (WaitsOnLive cs) ws = others_wait cs t.waiting conn well.waiting in
    let apart : All (λ w. not (is_waiting_on conn w) ≡ true) ws = filter_passes (λ w. not (is_waiting_on conn w))
    t.waiting in
    record {
      fids = fids_version (IsOfLive cs) (IsOfLive (slice_set cs conn (Ended why))) t conn None
          (λ c f off h. (hang_lives cs conn c why off h.0, h.1)) well.fids;
      waiting = λ k d h. let w : Waiting = slice_index_or ws k d in
          hang_lives cs conn w.conn why (eqb-false w.conn conn (not-true (is_waiting_on conn w) (apart k d h)))
          (live k d h);
      book = freed_all t at b conn None well.book;
    }

-- ---- one event

pub later : (s : State) → IsWell s → AreWell s.connections s.tables (s.entries + 1) s.scene.book
later s well = record {
  fids = well.fids;
  waiting = well.waiting;
  book = book_later (IsHeld event_opening s.tables)
      s.entries (s.entries + 1) s.scene.book (omega arith) well.book;
}

-- a connection that is dialled
well_dialed : (cs : List Connection) (t : Tables) (at : ℕ) (b : BookState) (conn : ℕ) → AreWell cs t at b
    → AreWell (slice_set cs conn Live) (after_join t conn) at b
well_dialed cs t at b conn well =
    let now : List Connection = slice_set cs conn Live in
    record {
      fids = fids_join (IsOfLive now) t conn (fids_weaker (IsOfLive cs) (IsOfLive now) t
          (λ c f h. (dial_lives cs conn c h.0, h.1)) well.fids);
      waiting = All-weaker (WaitsOnLive cs) (WaitsOnLive now) (λ w h. dial_lives cs conn w.conn h) t.waiting
          well.waiting;
      book = book_weaker (IsHeld event_opening t) (IsHeld event_opening (after_join t conn)) at b
          (λ r h. held_join event_opening t conn r h) well.book;
    }

-- the connections while what an event makes is made
unfoldable pub begun : List Connection → Kind → List Connection
begun cs (kind.Dials conn) = slice_set cs conn Live
begun cs (kind.Asks conn tag) = cs
begun cs (kind.Ends conn why) = cs
begun cs (kind.Takes conn) = cs
begun cs kind.Acts = cs

-- what a message of this state opens
abbrev pub opens_in : Present → EventChange → Fid → Type 0
opens_in s e value = IsNew (world_with s.scene.watched s.scene.windows) (plumber_of s.scene.rules s.scene.ports)
    (opened_at s) e value

-- the connection of a message lives, and the message puts and reads what it may
unfoldable pub IsOwn : Present → Kind → Doing → Type 0
IsOwn s (kind.Dials conn) d = Unit {0}
IsOwn s (kind.Asks conn tag) d =
    Lives s.connections conn × PutsSane (opens_in s d.events) s.tables conn d.effect
    × AsksSane (grown_with s.tables conn d.effect) conn tag d.answer
IsOwn s (kind.Ends conn why) d = Unit {0}
IsOwn s (kind.Takes conn) d = Unit {0}
IsOwn s kind.Acts d = Unit {0}

-- with what the message puts, and takes of its opening
pub well_read : (s : Present) (k : Kind) (d : Doing) → IsOwn s k d
    → AreWell s.connections s.tables (next_entry s) s.scene.book
    → AreWell (begun s.connections k) (grown_tables s k d) (next_entry s) (read_book s k d)
unfolding begun IsOwn
well_read s (kind.Dials conn) d own well = well_dialed s.connections s.tables (next_entry s) s.scene.book conn well
well_read s (kind.Asks conn tag) d own well =
    well_followed s.connections (port_tables s (kind.Asks conn tag) d) (next_entry s)
    (read_book s (kind.Asks conn tag) d) (acted s d).watch conn tag d.answer own.0
    (well_asked s.connections (read_tables s (kind.Asks conn tag) d) (next_entry s) (read_book s (kind.Asks conn tag) d)
    (acted s d).ports conn tag d.answer own.0
    (well_answered s.connections (grown_with s.tables conn d.effect) (next_entry s) s.scene.book conn tag d.answer own.0
    own.2
    (well_grown (opens_in s d.events) s.connections s.tables (next_entry s) s.scene.book conn d.effect own.0 own.1
    well)))
well_read s (kind.Ends conn why) d own well = well
well_read s (kind.Takes conn) d own well = well
well_read s kind.Acts d own well = well

well_left : (cs : List Connection) (t : Tables) (at : ℕ) (b : BookState) (k : Kind) (d : Doing) (xs : List Response)
    → AreWell (begun cs k) t at b
    → AreWell (connections_after cs k) (ended_tables t k d xs) at (left_book at t k d b)
unfolding begun
well_left cs t at b (kind.Dials conn) d xs well = well_ended (slice_set cs conn Live) t at b xs well
well_left cs t at b (kind.Asks conn tag) d xs well =
    let left : Tables = ended_with t conn d.effect in
    let free : BookState = freed at b t conn d.effect in
    well_cancelled cs (ended left xs) at free conn d.events (well_ended cs left at free xs
    (well_freed cs t at b conn d.effect well))
well_left cs t at b (kind.Ends conn why) d xs well =
    well_ended (slice_set cs conn (Ended why)) (after_hangup t conn) at (without_fids at b t conn) xs
    (well_hung cs t at b conn why well)
well_left cs t at b (kind.Takes conn) d xs well = well_ended cs t at b xs well
well_left cs t at b kind.Acts d xs well = well_ended cs t at b xs well

well_written : (cs : List Connection) (t : Tables) (at : ℕ) (b : BookState) (o : Option BackItem) → AreWell cs t at b
    → AreWell cs t at (written_back at b o)
well_written cs t at b o well = record {
  fids = well.fids;
  waiting = well.waiting;
  book =
      book_written (IsHeld event_opening t) at b o well.book;
}

well_kind : (s : Present) (k : Kind) (d : Doing) → IsOwn s k d → AreWell s.connections s.tables (next_entry s)
    s.scene.book
    → AreWell (connections_after s.connections k) (tables_after s k d) (next_entry s) (book_after s k d)
well_kind s k d own well =
    let back : BookState = written_back (next_entry s) (grown_book s k d) d.back in
    well_closed (connections_after s.connections k) (tables_after s k d) (next_entry s)
    (left_book (next_entry s) (grown_tables s k d) k d back) (deleted_by d.deeds)
    (well_left s.connections (grown_tables s k d) (next_entry s) back k d (said s k d)
    (well_written (begun s.connections k) (grown_tables s k d) (next_entry s) (grown_book s k d) d.back
    (well_items (begun s.connections k) (grown_tables s k d) s k d (well_read s k d own well))))

-- what holds of the fids of a connection
pub moded : (s : State) (conn : ℕ) → IsWell s → (number : ℕ) (f : Fid) → fid_of s.tables conn number ≡ Some f
    → IsModed f
moded s conn well number f e = (fids_at (IsOfLive s.connections) s.tables conn number f well.fids e).1

-- what a fid holds makes no difference
held_new : (s : Present) (v : EventChange) (f : Fid) (text : List ℕ) → opens_in s v f
    → opens_in s v (record f { held = text })
held_new s v f text h = record { live = h.live; opening = h.opening; events = h.events; counted = h.counted }

held_sane : (s : Present) (v : EventChange) (t : Tables) (conn : ℕ) (e : Effect) (held : Option (List ℕ))
    → PutsSane (opens_in s v) t conn e → PutsSane (opens_in s v) t conn (with_held e held)
held_sane s v t conn effect.Nothing held h = tt
held_sane s v t conn (effect.Begins msize) held h = tt
held_sane s v t conn (effect.Puts number fid) held h = record {
  moded = h.moded;
  keeps = h.keeps;
  from = λ o opens.
      elim (h.from o opens) as (λ x. IsStill t conn number (record fid { held = held_or fid.held held })
      ⊎ opens_in s v (record fid { held = held_or fid.held held })) [
        | inl still ↦ inl still
        | inr new ↦ inr (held_new s v fid (held_or fid.held held) new)
      ];
}
held_sane s v t conn (effect.Frees number) held h = tt

-- the read of a message is one of an opening that a fid has
own_held : (s : Present) (t : Tables) (conn tag : ℕ) (d : Reaction) (o : Origin) → ReadsSane t conn d d.answer
    → AsksSane (grown_with t conn (message_doing s d o).effect) conn tag (message_doing s d o).answer
unfolding AsksSane
own_held s t conn tag d o sane fid opening count is =
    let a : Answer = d.answer in
    let same : a ≡ Reads fid opening count = message_reads s d o (Reads fid opening count) refl is in
    let reads : ReadsSane t conn d (Reads fid opening count) = subst (ReadsSane t conn d) same sane in
    let has : HasOpening event_opening t conn fid opening = reads.1 in
    subst (λ (x : Effect). IsHeld event_opening (grown_with t conn (with_held x (held_of s d o)))
    (asker_of conn tag opening count)) (sym reads.0)
    (record { number = fid; fid = has.fid; is = has.is; opens = has.opens })

-- what a message of this state does to fids and openings
pub sane_in : (s : State) (conn : ℕ) (msg : TMsg) → IsWell s → IsSane (opens_in (present s)) s.tables conn
    (reaction_at (present s) conn msg)
sane_in s conn msg well =
    let p : Present = present s in
    reaction_sane (opens_in p) (server_at p conn) (moded s conn well) msg.body
    (λ f mode live counted. record { live = live; opening = refl; events = refl; counted = counted })

own_message : (s : State) (conn : ℕ) (msg : TMsg) → enabled_at (present s) (event.Msg conn msg) ≡ None → IsWell s
    → IsOwn (present s) (kind.Asks conn msg.tag) (doing_of (present s) (event.Msg conn msg))
unfolding IsOwn
own_message s conn msg allowed well =
    let p : Present = present s in
    let done : Reaction = reaction_at p conn msg in
    let o : Origin = message_origin s.tables conn msg.body in
    let sane : IsSane (opens_in p) s.tables conn done = sane_in s conn msg well in (
      message_lives p conn msg allowed,
      held_sane p done.events s.tables conn done.effect (held_of p done o) sane.0,
      own_held p s.tables conn msg.tag done o sane.1,
    )

pub own : (s : State) (e : Event) → enabled_at (present s) e ≡ None → IsWell s
    → IsOwn (present s) (kind_of e) (doing_of (present s) e)
unfolding IsOwn
own s (event.Dial conn) allowed well = tt
own s (event.Msg conn msg) allowed well = own_message s conn msg allowed well
own s (event.Hang conn why) allowed well = tt
own s (event.Took conn) allowed well = tt
own s event.New allowed well = tt
own s (event.Key w side text) allowed well = tt
own s (event.Sel w range) allowed well = tt
own s (event.Exec at) allowed well = tt
own s (event.Arg at chord) allowed well = tt
own s (event.Look at) allowed well = tt
own s (event.File path text) allowed well = tt
own s (event.Dir path) allowed well = tt

pub well_step : (s : State) (e : Event) → enabled_at (present s) e ≡ None → IsWell s → IsWell (step s e)
unfolding step
well_step s e allowed well = well_kind (present s) (kind_of e) (doing_of (present s) e) (own s e allowed well)
    (later s well)

-- ---- all events

pub no_entries : (format : Format) → IsWell (start_of format)
no_entries format = record {
  fids = no_fids format (IsOfLive (start_of format).connections);
  waiting = All-nil (WaitsOnLive (start_of format).connections);
  book = record {
    lawful = lawful-empty;
    latest = omega arith;
    reads = All-nil (IsHeld event_opening (nothing format));
  };
}

well_all : (before : Journal) (events : List Event) → PlaysOn before events → IsWell (run before)
    → IsWell (run (followed before events))
unfolding ArePlayed
well_all before [] played well = subst (λ (l : Journal). IsWell (run l)) (sym (none_more before)) well
well_all before (e ∷ events) played well =
    subst (λ (l : Journal). IsWell (run l)) (goes_on before e events)
    (well_all (longer before e) events played.2 (subst IsWell (sym (run-push before e))
    (well_step (run before) e played.1 well)))

none_run : (format : Format) → IsWell (run (journal_in format []))
unfolding run
none_run format = no_entries format

pub well_after : (journal : Journal) → AreEnabled journal → IsWell (run journal)
well_after journal played = well_all (journal_in journal.format []) journal.events played (none_run journal.format)
