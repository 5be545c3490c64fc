-- What an event makes before it ends anything: the same reads wait, in the sessions and in the files. First what isn't
-- a message.
use Rattle.std.proofs.Common.{◌≡◌, inl, ℕ, ◌≤◌, false, List, refl, ap, subst, ◌∙◌, arith}
use Rattle.std.specs.List.{list_any}
use Rattle.acme_watch.specs.Laws.{count_of}
use Rattle.acme_watch.specs.Watching.{WatchState}
use Rattle.acme_watch.specs.declared.types.OpeningCounts.{OpeningCounts}
use Rattle.acme_watch.specs.declared.types.WatchFile.{WatchFile}
use Rattle.acme_watch.specs.declared.types.WatchRead.{WatchRead}
use Rattle.fid_table.specs.declared.session.Waiting.{Waiting}
use Rattle.fid_table.specs.Tables.{Tables}
use Rattle.wait_queue.specs.declared.types.Asker.{Asker}
use Rattle.event_book.specs.BookState.{BookState, is_on_window}
use Rattle.plumb_ports.specs.PortsState.{PortsState}
use Rattle.plumb_ports.specs.Laws.{AreNumbered}
use Rattle.am_journal.specs.declared.ending.Ending.{Ending}
use Rattle.core_scene.specs.Scenes.{deleted_by}
use Rattle.core_fids.specs.declared.effect.Effect.{Effect}
use Rattle.core_fids.specs.declared.effect.Effect.TheVariants as effect
use Rattle.core_events.specs.Asking.{opened}
use Rattle.core_events.specs.Waits.{clunked, deletions}
use Rattle.core_events.specs.PortAsking.{joined_with}
use Rattle.core_watch.specs.Asking.{opened_with}
use Rattle.core_parts.specs.declared.kind.Kind.TheVariants as kind
use Rattle.core_parts.specs.Doing.{Doing}
use Rattle.core_parts.specs.States.{Present}
use Rattle.core_intents.specs.Doings.{entry_of}
use Rattle.core_steps.specs.Stages.{acted}
use Rattle.core_laws.proofs.Lists.{IsIn}
use Rattle.core_laws.proofs.Staying.{heard}
use Rattle.core_laws.proofs.Growths.{owners_more, IsMore, acted_more, joined_more, deleted_right, port_deleted_right}
use Rattle.core_laws.proofs.Growths.{watch_deleted_right}
use Rattle.core_laws.proofs.Ties.{FileReads, Openings, reads_of, openings_of, Ties, AreReads, as_ties, AreLater}
use Rattle.core_laws.proofs.Ties.{ties_more}
use Rattle.core_laws.proofs.Waits.{IsToldRight}
use Rattle.core_laws.proofs.Watches.{IsSameWatch, acted_same, watches_more}

abbrev pub AreTied : Tables → BookState → PortsState → WatchState → Type 0
AreTied t b p w = Ties t (reads_of b p w) (openings_of b p w) × AreNumbered p

-- the same of the editor as it stands
abbrev pub AreTiedIn : Present → Type 0
AreTiedIn s = AreTied s.tables s.scene.book s.scene.ports s.scene.watch

-- the reads and the openings before the event
abbrev pub reads_now : Present → FileReads
reads_now s = reads_of s.scene.book s.scene.ports s.scene.watch

abbrev pub openings_now : Present → Openings
openings_now s = openings_of s.scene.book s.scene.ports s.scene.watch

-- ---- with the openings that come

-- the ports with what its deeds deliver, and the opening that joins
abbrev pub then_ports : Present → Doing → PortsState
then_ports s d = joined_with (acted s d).ports d.events

-- `log` and `jobs` with what its deeds note and ask, and the opening that comes
abbrev pub then_watch : Present → Doing → WatchState
then_watch s d = opened_with (acted s d).watch d.events

abbrev pub then_owners : Present → Doing → List ℕ
then_owners s d = (opened s.scene.book d.events).owners

abbrev pub then_openings : Present → Doing → Openings
then_openings s d = openings_of (opened s.scene.book d.events) (then_ports s d) (then_watch s d)

-- the same reads, where openings come
abbrev pub ThenTied : Present → Doing → Tables → Type 0
ThenTied s d t = Ties t (reads_of s.scene.book (then_ports s d) (then_watch s d)) (then_openings s d)

pub deeds_more : (s : Present) (d : Doing) → IsMore s.scene.ports (acted s d).ports
deeds_more s d = acted_more (entry_of s d) s.scene d.deeds

pub deeds_same : (s : Present) (d : Doing) → IsSameWatch s.scene.watch (acted s d).watch
deeds_same s d = acted_same (entry_of s d) s.scene d.deeds

pub then_reads : (s : Present) (d : Doing) → AreReads (reads_now s)
    (reads_of s.scene.book (then_ports s d) (then_watch s d))
then_reads s d = record {
  events = refl;
  ports = (joined_more (acted s d).ports d.events).0 ∙ (deeds_more s d).reads;
  watch = (watches_more (acted s d).watch d.events).0 ∙ (deeds_same s d).reads;
}

pub then_later : (s : Present) (d : Doing) → AreLater (openings_now s) (then_openings s d)
then_later s d =
    let more = owners_more s.scene.book d.events in
    record { long = more.0; keep = more.1; joined = joins; counts = counts }
  where
    joins : s.scene.ports.joined ≤ (then_ports s d).joined
    joins =
        let same : (acted s d).ports.joined ≡ s.scene.ports.joined = (deeds_more s d).joined in
        let more : (acted s d).ports.joined ≤ (then_ports s d).joined = (joined_more (acted s d).ports d.events).1 in
        omega (arith, same, more)

    counts : (f : WatchFile) → count_of s.scene.watch.opened f ≤ count_of (then_watch s d).opened f
    counts f =
        let same : count_of (acted s d).watch.opened f ≡ count_of s.scene.watch.opened f =
        ap (λ (c : OpeningCounts). count_of c f) (deeds_same s d).counts in
        let more : count_of (acted s d).watch.opened f ≤ count_of (then_watch s d).opened f =
        (watches_more (acted s d).watch d.events).1 f in
        omega (arith, same, more)

-- reads that are told with their openings as they are then
pub then_as : (s : Present) (d : Doing) (t : Tables) → Ties t (reads_now s) (then_openings s d) → ThenTied s d t
then_as s d t h =
    as_ties t t (reads_now s) (reads_of s.scene.book (then_ports s d) (then_watch s d)) (then_openings s d)
    (then_openings s d) refl (then_reads s d) (record { owners = refl; joined = refl; counts = refl }) h

pub then_ties : (s : Present) (d : Doing) (t : Tables) → Ties t (reads_now s) (openings_now s) → ThenTied s d t
then_ties s d t h = then_as s d t (ties_more t (reads_now s) (openings_now s) (then_openings s d) (then_later s d) h)

-- ---- who is told

module _ (s : Present) (d : Doing) (tied : Ties s.tables (reads_now s) (openings_now s)) where
  -- of a deletion
  pub told_deleted : (r : Asker) → IsIn s.scene.book.reads r → heard (deletions s.tables (deleted_by d.deeds)) r.conn
      r.tag ≡ list_any (λ v. is_on_window (then_owners s d) v r) (deleted_by d.deeds)
  told_deleted r i = deleted_right s.tables (reads_now s) (openings_now s) (then_openings s d) tied (deleted_by d.deeds)
      (owners_more s.scene.book d.events).1 r i

  pub told_port_deleted : (r : Asker) → IsIn (then_ports s d).reads r
      → heard (deletions s.tables (deleted_by d.deeds)) r.conn r.tag ≡ false
  told_port_deleted r i =
      port_deleted_right s.tables (reads_now s) (openings_now s) (then_openings s d) tied (deleted_by d.deeds) r
      (subst (λ (ps : List Asker). IsIn ps r) (then_reads s d).ports i)

  pub told_watch_deleted : (r : WatchRead) → IsIn (then_watch s d).reads r
      → heard (deletions s.tables (deleted_by d.deeds)) r.asker.conn r.asker.tag ≡ false
  told_watch_deleted r i =
      watch_deleted_right s.tables (reads_now s) (openings_now s) (then_openings s d) tied (deleted_by d.deeds) r
      (subst (λ (ws : List WatchRead). IsIn ws r) (then_reads s d).watch i)

  pub silent_clunk : (conn : ℕ) (w : Waiting) → d.effect ≡ effect.Nothing
      → heard (clunked s.tables conn d.effect) w.conn w.tag ≡ false
  silent_clunk conn w none = ap (λ (e : Effect). heard (clunked s.tables conn e) w.conn w.tag) none

  pub dial_right : (conn : ℕ) → d.effect ≡ effect.Nothing → IsToldRight s (kind.Dials conn) d
  dial_right conn none = record {
    clunk = λ w i. silent_clunk conn w none;
    own = λ w i. inl refl;
    port = λ w i. refl;
    watch = λ w i. refl;
    deleted = told_deleted;
    port_deleted = told_port_deleted;
    watch_deleted = told_watch_deleted;
  }

  pub end_right : (conn : ℕ) (why : Ending) → d.effect ≡ effect.Nothing → IsToldRight s (kind.Ends conn why) d
  end_right conn why none = record {
    clunk = λ w i. silent_clunk conn w none;
    own = λ w i. inl refl;
    port = λ w i. refl;
    watch = λ w i. refl;
    deleted = told_deleted;
    port_deleted = told_port_deleted;
    watch_deleted = told_watch_deleted;
  }

  pub take_right : (conn : ℕ) → d.effect ≡ effect.Nothing → IsToldRight s (kind.Takes conn) d
  take_right conn none = record {
    clunk = λ w i. silent_clunk conn w none;
    own = λ w i. inl refl;
    port = λ w i. refl;
    watch = λ w i. refl;
    deleted = told_deleted;
    port_deleted = told_port_deleted;
    watch_deleted = told_watch_deleted;
  }

  pub act_right : d.effect ≡ effect.Nothing → IsToldRight s kind.Acts d
  act_right none = record {
    clunk = λ w i. silent_clunk 0 w none;
    own = λ w i. inl refl;
    port = λ w i. refl;
    watch = λ w i. refl;
    deleted = told_deleted;
    port_deleted = told_port_deleted;
    watch_deleted = told_watch_deleted;
  }
