-- After each journal of enabled events the reads that wait in the sessions are those of the event files, of the ports,
-- and of `log` and `jobs`, in order.
use Rattle.std.proofs.Common.{◌≡◌, ◌⊎◌, inl, inr, ℕ, true, false, List, [], ◌∷◌, Option, Some, None, refl}
use Rattle.std.proofs.Common.{sym, ap, subst, ◌∙◌}
use Rattle.std.specs.List.{list_any}
use Rattle.ninep_types.specs.declared.message.TMsg.{TMsg}
use Rattle.fid_table.specs.declared.types.Fid.{Fid}
use Rattle.fid_table.specs.declared.session.Waiting.{Waiting}
use Rattle.fid_table.specs.Tables.{Tables, is_waiting, after_join}
use Rattle.wait_queue.specs.declared.types.Asker.{Asker}
use Rattle.win_events.specs.declared.item.Origin.{Origin}
use Rattle.acme_watch.specs.declared.types.WatchFile.{WatchFile}
use Rattle.plumb_ports.specs.Laws.{AreNumbered}
use Rattle.am_journal.specs.declared.event.Event.{Event}
use Rattle.am_journal.specs.declared.event.Event.TheVariants as event
use Rattle.am_journal.specs.declared.event.Format.{Format}
use Rattle.am_journal.specs.declared.event.Journal.{Journal}
use Rattle.am_journal.specs.Journal.{longer, journal_in}
use Rattle.am_counter.specs.Played.{ArePlayed}
use Rattle.core_windows.specs.declared.change.Change.{Change}
use Rattle.core_scene.specs.Scenes.{deleted_by}
use Rattle.core_fids.specs.Fids.{event_opening, port_opening, watch_opening, is_there}
use Rattle.core_fids.specs.declared.effect.Answer.{Answer}
use Rattle.core_fids.specs.declared.effect.Answer.TheVariants.{Says, Reads, ReadsPort, ReadsWatch}
use Rattle.core_fids.specs.declared.effect.Demand.{Demand}
use Rattle.core_fids.specs.declared.effect.Demand.TheVariants as demand
use Rattle.core_fids.specs.declared.effect.Effect.{Effect}
use Rattle.core_fids.specs.declared.effect.Effect.TheVariants as effect
use Rattle.core_fids.specs.declared.effect.EventChange.TheVariants as events
use Rattle.core_fids.specs.declared.effect.Reaction.{Reaction}
use Rattle.core_fids.specs.declared.effect.WatchOpening.{WatchOpening}
use Rattle.core_events.specs.Responses.{feed_of, feed_in, feed_at}
use Rattle.core_tasks.specs.Tasks.{task_deeds}
use Rattle.core_parts.specs.declared.kind.Kind.{Kind}
use Rattle.core_parts.specs.declared.kind.Kind.TheVariants as kind
use Rattle.core_parts.specs.Doing.{Doing}
use Rattle.core_parts.specs.Kinds.{kind_of}
use Rattle.core_parts.specs.States.{Present, State, present, next_entry}
use Rattle.core_intents.specs.Doings.{enabled_at, doing_of, message_doing, entry_by}
use Rattle.core_intents.specs.Intents.{with_held, demanded_task, reaction_at}
use Rattle.core_intents.specs.Origins.{message_origin}
use Rattle.core_steps.specs.Stages.{grown_tables, grown_book, tables_after, book_after, ports_after, watch_after}
use Rattle.acme_core.specs.Run.{step, run, AreEnabled}
use Rattle.acme_core.proofs.Goes.{run-push}
use Rattle.core_laws.specs.Fronts.{followed}
use Rattle.core_laws.specs.Waits.{AreApart, WaitsAreTied}
use Rattle.core_laws.proofs.Answering.{is_reads, message_reads, held_of}
use Rattle.core_laws.proofs.Books.{IsBook, book_weaker}
use Rattle.core_laws.proofs.Fids.{IsHeld}
use Rattle.core_laws.proofs.FileKinds.{on}
use Rattle.core_laws.proofs.Lists.{all_by}
use Rattle.core_laws.proofs.Playing.{goes_on, none_more, PlaysOn}
use Rattle.core_laws.proofs.Reactions.{PutsSane, ReadsSane, HasOpening}
use Rattle.core_laws.proofs.Ties.{ties_join}
use Rattle.core_laws.proofs.Versions.{on_version, tag_or_version}
use Rattle.core_laws.proofs.Waits.{TiedThen, IsToldRight, ties_after}
use Rattle.core_laws.proofs.Wells.{IsWell, IsOwn, AreWell, opens_in, own, later, well_read, items_book, sane_in}
use Rattle.core_laws.proofs.Wells.{well_step, no_entries}
use Rattle.core_laws.proofs.Numbers.{numbers_after}
use Rattle.core_laws.proofs.Grown.{AreTied, AreTiedIn, reads_now, openings_now, then_ties, dial_right, end_right}
use Rattle.core_laws.proofs.Grown.{take_right, act_right}
use Rattle.core_laws.proofs.GrownSays.{IsTagFree, says_ties, says_right}
use Rattle.core_laws.proofs.GrownReads.{ReadsAlone, reads_ties, reads_right}
use Rattle.core_laws.proofs.GrownPorts.{port_ties, port_right}
use Rattle.core_laws.proofs.GrownWatches.{watch_ties, watch_right}

-- ---- one event

-- after an event of this kind
abbrev TiedAfter : Present → Kind → Doing → Type 0
TiedAfter s k d = AreTied (tables_after s k d) (book_after s k d) (ports_after s k d) (watch_after s k d)

-- the step of an event of this kind, where what it makes is tied
tied_kind : (s : Present) (k : Kind) (d : Doing) → IsOwn s k d → AreWell s.connections s.tables (next_entry s)
    s.scene.book → IsToldRight s k d → TiedThen s k d → AreNumbered s.scene.ports → TiedAfter s k d
tied_kind s k d own well right ties numbered =
    let held : Asker → Type 0 = IsHeld event_opening (grown_tables s k d) in
    let grown : IsBook held (next_entry s) (grown_book s k d) = items_book held s k d (well_read s k d own well).book in (
      ties_after s k d right ties (book_weaker held (λ r. Unit {0}) (next_entry s) (grown_book s k d) (λ r h. tt) grown),
      numbers_after s k d numbered,
    )

tag_free : (s : Present) (conn : ℕ) (msg : TMsg) → enabled_at s (event.Msg conn msg) ≡ None → IsTagFree s.tables conn
    msg.tag (doing_of s (event.Msg conn msg)).effect
tag_free s conn msg allowed =
    elim (tag_or_version s conn msg allowed) as (λ z. IsTagFree s.tables conn msg.tag
    (doing_of s (event.Msg conn msg)).effect) [
      | inl none ↦ inl none
      | inr version ↦
          inr (on_version s conn (λ d. (msize : Option ℕ) × ((message_doing s d
          (message_origin s.tables conn msg.body)).effect ≡ effect.Begins msize)) (λ msize body. (msize, refl))
          msg.body version)
    ]

no_effect : (e : Effect) (msize : Option ℕ) → e ≡ effect.Nothing → e ≡ effect.Begins msize → ⊥
no_effect e msize g h = let same : effect.Nothing ≡ effect.Begins msize = sym g ∙ h in absurd cc

still_free : (t : Tables) (conn tag : ℕ) (e : Effect) → e ≡ effect.Nothing → IsTagFree t conn tag e
    → list_any (is_waiting conn tag) t.waiting ≡ false
still_free t conn tag e none (inl free) = free
still_free t conn tag e none (inr is) = absurd (no_effect e is.0 none is.1)

-- a message that reads does no deeds
no_deeds : (s : Present) (d : Reaction) (o : Origin) → d.changes ≡ []
    → d.demand ≡ demand.Nothing → deleted_by (message_doing s d o).deeds ≡ []
unfolding task_deeds
no_deeds s d o g h =
    ap (λ (cs : List Change). deleted_by (task_deeds (entry_by s o) (demanded_task s.scene.book cs d.demand) s.scene)) g
    ∙ ap (λ (m : Demand). deleted_by (task_deeds (entry_by s o) (demanded_task s.scene.book [] m) s.scene)) h

module _ (s : State) (conn : ℕ) (msg : TMsg) (allowed : enabled_at (present s) (event.Msg conn msg) ≡ None)
    (well : IsWell s) (tied : AreTiedIn (present s)) where
  abbrev now : Present
  now = present s

  abbrev does_it : Doing
  does_it = doing_of now (event.Msg conn msg)

  abbrev its_kind : Kind
  its_kind = kind.Asks conn msg.tag

  abbrev its_reaction : Reaction
  its_reaction = reaction_at now conn msg

  abbrev its_origin : Origin
  its_origin = message_origin s.tables conn msg.body

  puts : PutsSane (opens_in now does_it.events) s.tables conn does_it.effect
  unfolding IsOwn
  puts = (own s (event.Msg conn msg) allowed well).1

  -- what a reaction does that reads this
  sane_read : (read : Answer) → is_reads read ≡ true → does_it.answer ≡ Some read
      → ReadsSane s.tables conn its_reaction read
  sane_read read reads is = subst (ReadsSane s.tables conn its_reaction)
      (message_reads now its_reaction its_origin read reads is) (sane_in s conn msg well).1

  -- it does nothing else
  alone_by : {O : Type 0} (which : Fid → Option O) (fid : ℕ) (opening : O) → its_reaction.effect ≡ effect.Nothing
      → HasOpening which s.tables conn fid opening → its_reaction.events ≡ events.Nothing → its_reaction.changes ≡ []
      → its_reaction.demand ≡ demand.Nothing → ReadsAlone now conn msg.tag does_it which fid opening
  alone_by which fid opening plain has still changes asks =
      let none : does_it.effect ≡ effect.Nothing = ap (λ (e : Effect). with_held e
      (held_of now its_reaction its_origin)) plain in
      record {
        plain = none;
        still = still;
        deleted = no_deeds now its_reaction its_origin changes asks;
        has = has;
        free = still_free s.tables conn msg.tag does_it.effect none (tag_free now conn msg allowed);
      }

  abbrev Grown : Type 0
  Grown = IsToldRight now its_kind does_it × TiedThen now its_kind does_it

  grown_by : (a : Option Answer) → does_it.answer ≡ a → Grown
  grown_by None is = absurd cc
  grown_by (Some (Says body)) is = (
    says_right now conn msg.tag does_it tied body is (tag_free now conn msg allowed),
    says_ties now conn msg.tag does_it tied body is puts,
  )
  grown_by (Some (Reads fid opening count)) is =
      let read : Answer = Reads fid opening count in
      let reads : ReadsSane s.tables conn its_reaction read = sane_read read refl is in
      let alone = alone_by event_opening fid opening reads.0 reads.1 reads.2 reads.3 reads.4 in (
        reads_right now conn msg.tag does_it tied fid opening count is alone,
        reads_ties now conn msg.tag does_it tied fid opening count is alone,
      )
  grown_by (Some (ReadsPort fid opening count)) is =
      let read : Answer = ReadsPort fid opening count in
      let reads : ReadsSane s.tables conn its_reaction read = sane_read read refl is in
      let alone = alone_by port_opening fid opening reads.0 reads.1 reads.2 reads.3 reads.4 in (
        port_right now conn msg.tag does_it tied fid opening count is alone,
        port_ties now conn msg.tag does_it tied fid opening count is alone,
      )
  grown_by (Some (ReadsWatch fid opening count)) is =
      let read : Answer = ReadsWatch fid opening count in
      let reads : ReadsSane s.tables conn its_reaction read = sane_read read refl is in
      let alone = alone_by watch_opening fid opening reads.0 reads.1 reads.2 reads.3 reads.4 in (
        watch_right now conn msg.tag does_it tied fid opening count is alone,
        watch_ties now conn msg.tag does_it tied fid opening count is alone,
      )

  tied_message : TiedAfter now its_kind does_it
  tied_message =
      let grown : Grown = grown_by does_it.answer refl in
      tied_kind now its_kind does_it (own s (event.Msg conn msg) allowed well) (later s well) grown.0 grown.1 tied.1

abbrev pub IsTiedState : State → Type 0
IsTiedState s = AreTied s.tables s.scene.book s.scene.ports s.scene.watch

-- an event of the editor itself
tied_act : (s : State) (e : Event) → kind_of e ≡ kind.Acts → IsOwn (present s) kind.Acts (doing_of (present s) e)
    → (doing_of (present s) e).effect ≡ effect.Nothing → IsWell s → IsTiedState s
    → TiedAfter (present s) kind.Acts (doing_of (present s) e)
tied_act s e is own none well tied =
    let p : Present = present s in
    let d : Doing = doing_of p e in
    tied_kind p kind.Acts d own (later s well) (act_right p d tied.0 none) (then_ties p d s.tables tied.0) tied.1

tied_step : (s : State) (e : Event) → enabled_at (present s) e ≡ None → IsWell s → IsTiedState s
    → IsTiedState (step s e)
unfolding step
tied_step s (event.Dial conn) allowed well tied =
    let p : Present = present s in
    let d : Doing = doing_of p (event.Dial conn) in
    tied_kind p (kind.Dials conn) d (own s (event.Dial conn) allowed well) (later s well)
    (dial_right p d tied.0 conn refl)
    (then_ties p d (after_join s.tables conn) (ties_join s.tables conn (reads_now p) (openings_now p) tied.0)) tied.1
tied_step s (event.Msg conn msg) allowed well tied = tied_message s conn msg allowed well tied
tied_step s (event.Hang conn why) allowed well tied =
    let p : Present = present s in
    let d : Doing = doing_of p (event.Hang conn why) in
    tied_kind p (kind.Ends conn why) d (own s (event.Hang conn why) allowed well) (later s well)
    (end_right p d tied.0 conn why refl) (then_ties p d s.tables tied.0) tied.1
tied_step s (event.Took conn) allowed well tied =
    let p : Present = present s in
    let d : Doing = doing_of p (event.Took conn) in
    tied_kind p (kind.Takes conn) d (own s (event.Took conn) allowed well) (later s well)
    (take_right p d tied.0 conn refl) (then_ties p d s.tables tied.0) tied.1
tied_step s event.New allowed well tied = tied_act s event.New refl (own s event.New allowed well) refl well tied
tied_step s (event.Key w side text) allowed well tied = tied_act s (event.Key w side text) refl
    (own s (event.Key w side text) allowed well) refl well tied
tied_step s (event.Sel w range) allowed well tied = tied_act s (event.Sel w range) refl
    (own s (event.Sel w range) allowed well) refl well tied
tied_step s (event.Exec at) allowed well tied = tied_act s (event.Exec at) refl (own s (event.Exec at) allowed well)
    refl well tied
tied_step s (event.Arg at chord) allowed well tied = tied_act s (event.Arg at chord) refl
    (own s (event.Arg at chord) allowed well) refl well tied
tied_step s (event.Look at) allowed well tied = tied_act s (event.Look at) refl (own s (event.Look at) allowed well)
    refl well tied
tied_step s (event.File path text) allowed well tied = tied_act s (event.File path text) refl
    (own s (event.File path text) allowed well) refl well tied
tied_step s (event.Dir path) allowed well tied = tied_act s (event.Dir path) refl (own s (event.Dir path) allowed well)
    refl well tied

-- ---- all events

abbrev IsAll : State → Type 0
IsAll s = IsWell s × IsTiedState s

all_from : (before : Journal) (events : List Event) → PlaysOn before events → IsAll (run before)
    → IsAll (run (followed before events))
unfolding ArePlayed
all_from before [] played h = subst (λ (l : Journal). IsAll (run l)) (sym (none_more before)) h
all_from before (e ∷ events) played h =
    let next : IsAll (step (run before) e) = (
      well_step (run before) e played.1 h.0,
      tied_step (run before) e played.1 h.0 h.1,
    ) in
    subst (λ (l : Journal). IsAll (run l)) (goes_on before e events)
    (all_from (longer before e) events played.2 (subst IsAll (sym (run-push before e)) next))

begins : (format : Format) → IsAll (run (journal_in format []))
unfolding run
begins format = (
  no_entries format,
  (
    record {
      fed = λ w i. absurd i;
      apart = tt;
      events = refl;
      ports = refl;
      watch = refl;
      own = record { one = λ c d e f o i j g h. absurd i; low = λ c e o i g. absurd i };
      port_own = record { one = λ c d e f o i j g h. absurd i; low = λ c e o i g. absurd i };
      watch_own = λ f. record { one = λ c d e g o i j h k. absurd i; low = λ c e o i g. absurd i };
      windows = λ c e w o i n g. absurd i;
    },
    refl,
  ),
)

pub tied_after : (journal : Journal) → AreEnabled journal → IsTiedState (run journal)
tied_after journal played = (all_from (journal_in journal.format []) journal.events played
    (begins journal.format)).1

-- what a fid has that is read so
fed_there : (event port : Option ℕ) (watch : Option WatchOpening) (o : ℕ) → (event ≡ Some o)
    ⊎ ((port ≡ Some o) ⊎ ((f : WatchFile) × (watch ≡ Some (on f o)))) → is_there (feed_of event port watch) ≡ true
fed_there event port watch o (inl h) = ap (λ (x : Option ℕ). is_there (feed_of x port watch)) h
fed_there None port watch o (inr (inl h)) = ap (λ (x : Option ℕ). is_there (feed_of None x watch)) h
fed_there (Some y) port watch o (inr (inl h)) = refl
fed_there None None watch o (inr (inr h)) = ap (λ (x : Option WatchOpening). is_there (feed_of None None x)) h.1
fed_there None (Some y) watch o (inr (inr h)) = refl
fed_there (Some y) port watch o (inr (inr h)) = refl

pub waits_tied : (journal : Journal) → AreEnabled journal → WaitsAreTied (run journal)
waits_tied journal played =
    let s : State = run journal in
    let tied = tied_after journal played in
    record {
      known = all_by (λ (w : Waiting). is_there (feed_at s.tables w) ≡ true) s.tables.waiting
          (λ w i. let fed = tied.0.fed w i in ap (λ (o : Option Fid). is_there (feed_in o)) fed.is
          ∙ fed_there (event_opening fed.fid) (port_opening fed.fid) (watch_opening fed.fid) fed.opening fed.opens);
      events = tied.0.events;
      ports = tied.0.ports;
    }

pub tags_apart : (journal : Journal) → AreEnabled journal → AreApart (run journal).tables.waiting
tags_apart journal played = (tied_after journal played).0.apart
