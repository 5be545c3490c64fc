-- A message that reads an event file, a port, `log` or `jobs`: it is answered at once, or it is one read more.
use Rattle.std.proofs.Common.{◌≡◌, ◌⊎◌, inl, ℕ, Bool, true, false, List, [], Option, Some, None, refl, sym, ap, subst}
use Rattle.std.proofs.Common.{◌∙◌}
use Rattle.std.specs.List.{list_any}
use Rattle.ninep_types.specs.declared.message.RBody.{RBody}
use Rattle.fid_table.specs.declared.types.Fid.{Fid}
use Rattle.fid_table.specs.declared.session.Waiting.{Waiting}
use Rattle.fid_table.specs.Tables.{Tables, is_waiting}
use Rattle.wait_queue.specs.declared.types.Asker.{Asker}
use Rattle.event_book.specs.BookState.{BookState, is_on_window}
use Rattle.plumb_ports.specs.PortsState.{PortsState}
use Rattle.acme_watch.specs.Watching.{WatchState}
use Rattle.core_scene.specs.Scenes.{deleted_by}
use Rattle.core_fids.specs.Fids.{event_opening}
use Rattle.core_fids.specs.declared.effect.Answer.{Answer}
use Rattle.core_fids.specs.declared.effect.Answer.TheVariants.{Reads}
use Rattle.core_fids.specs.declared.effect.Effect.{Effect}
use Rattle.core_fids.specs.declared.effect.Effect.TheVariants as effect
use Rattle.core_fids.specs.declared.effect.EventChange.{EventChange}
use Rattle.core_fids.specs.declared.effect.EventChange.TheVariants as events
use Rattle.core_events.specs.Asking.{opened, read_said, book_read, waits_unless}
use Rattle.core_events.specs.Waits.{clunked, deletions}
use Rattle.core_events.specs.PortAsking.{joined_with}
use Rattle.core_watch.specs.Asking.{opened_with}
use Rattle.core_parts.specs.declared.kind.Kind.{Kind}
use Rattle.core_parts.specs.declared.kind.Kind.TheVariants as kind
use Rattle.core_parts.specs.Connections.{grown_with}
use Rattle.core_parts.specs.Doing.{Doing}
use Rattle.core_parts.specs.States.{Present, next_entry}
use Rattle.core_steps.specs.PortReads.{port_read_in, asked_said, asked_ports, asked_tables}
use Rattle.core_steps.specs.WatchReads.{watch_read_in, followed_said, followed_watch, followed_tables}
use Rattle.core_steps.specs.Stages.{read_response, asker_of, if_said, answer_said, answer_book, answer_tables, acted}
use Rattle.core_steps.specs.Stages.{read_tables, port_tables, grown_tables, read_book, open_ports, open_watch}
use Rattle.core_laws.proofs.Lists.{IsIn}
use Rattle.core_laws.proofs.Reactions.{HasOpening}
use Rattle.core_laws.proofs.Staying.{heard}
use Rattle.core_laws.proofs.Endings.{gone_with, clunks_with}
use Rattle.core_laws.proofs.Growths.{with_asker, read_reads}
use Rattle.core_laws.proofs.Ties.{FileReads, Ties, as_ties, ties_wait}
use Rattle.core_laws.proofs.Waits.{reads_then, openings_then, TiedThen, IsToldRight}
use Rattle.core_laws.proofs.Grown.{AreTiedIn, reads_now, openings_now, deeds_more, deeds_same, silent_clunk}
use Rattle.core_laws.proofs.GrownSays.{own_free}

-- what reads does nothing else
pub record ReadsAlone {O : Type 0} (s : Present) (conn tag : ℕ) (d : Doing) (which : Fid → Option O) (fid : ℕ)
    (opening : O) : Type 0 where
  pub plain : d.effect ≡ effect.Nothing
  pub still : d.events ≡ events.Nothing
  pub deleted : deleted_by d.deeds ≡ []
  pub has : HasOpening which s.tables conn fid opening
  pub free : list_any (is_waiting conn tag) s.tables.waiting ≡ false

module _ (s : Present) (d : Doing) (tied : AreTiedIn s) where
  pub clunk_alone : (conn : ℕ) (w : Waiting) → d.effect ≡ effect.Nothing
      → heard (clunked s.tables conn d.effect) w.conn w.tag ≡ clunks_with conn d.effect w
  clunk_alone c w none = silent_clunk s d tied.0 c w none ∙ sym (ap (λ (e : Effect). clunks_with c e w) none)

  pub deleted_alone : (p : ℕ → Bool) (c g : ℕ) → deleted_by d.deeds ≡ []
      → heard (deletions s.tables (deleted_by d.deeds)) c g ≡ list_any p (deleted_by d.deeds)
  deleted_alone p c g none = ap (λ (ws : List ℕ). heard (deletions s.tables ws) c g) none ∙ sym (ap (list_any p) none)

  pub other_alone : (c g : ℕ) → deleted_by d.deeds ≡ [] → heard (deletions s.tables (deleted_by d.deeds)) c g ≡ false
  other_alone c g none = ap (λ (ws : List ℕ). heard (deletions s.tables ws) c g) none

-- ---- an event file

module _ (s : Present) (conn tag : ℕ) (d : Doing) (tied : AreTiedIn s) (fid opening count : ℕ)
    (is : d.answer ≡ Some (Reads fid opening count)) (alone : ReadsAlone s conn tag d event_opening fid opening) where
  abbrev k : Kind
  k = kind.Asks conn tag

  abbrev put : Tables
  put = grown_with s.tables conn d.effect

  abbrev x : Asker
  x = asker_of conn tag opening count

  -- what is said to it
  abbrev said_now : Option RBody
  said_now = read_said s.tables s.scene.book x

  event_tables : grown_tables s k d ≡ waits_unless said_now s.tables conn tag fid
  event_tables =
      ap (λ (a : Option Answer). followed_tables (asked_tables (answer_tables put s.scene.book conn tag a)
      (acted s d).ports (port_read_in conn tag a)) (acted s d).watch (watch_read_in conn tag a (next_entry s))) is
      ∙ ap (λ (e : Effect). waits_unless (read_said (grown_with s.tables conn e) s.scene.book x)
      (grown_with s.tables conn e) conn tag fid) alone.plain

  event_book : read_book s k d ≡ book_read s.tables s.scene.book x (next_entry s)
  event_book =
      ap (λ (a : Option Answer). answer_book put s.scene.book conn tag a (next_entry s)) is
      ∙ ap (λ (e : Effect). book_read (grown_with s.tables conn e) s.scene.book x (next_entry s)) alone.plain

  event_ports : open_ports s k d ≡ (acted s d).ports
  event_ports = ap (λ (a : Option Answer). joined_with (asked_ports (read_tables s k d) (acted s d).ports
      (port_read_in conn tag a)) d.events) is ∙ ap (joined_with (acted s d).ports) alone.still

  event_watch : open_watch s k d ≡ (acted s d).watch
  event_watch = ap (λ (a : Option Answer). opened_with (followed_watch (port_tables s k d) (acted s d).watch
      (watch_read_in conn tag a (next_entry s))) d.events) is ∙ ap (opened_with (acted s d).watch) alone.still

  -- the reads with this one, where it waits
  abbrev with_it : FileReads
  with_it = record (reads_now s) { events = with_asker said_now x s.scene.book.reads }

  event_waits : (o : Option RBody) → Ties (waits_unless o s.tables conn tag fid)
      (record (reads_now s) { events = with_asker o x s.scene.book.reads }) (openings_now s)
  event_waits (Some body) = tied.0
  event_waits None = ties_wait s.tables x fid alone.has.fid (reads_now s) (openings_now s) alone.has.is alone.has.opens
      alone.free tied.0

  pub reads_ties : TiedThen s k d
  reads_ties =
      let read = read_reads s.tables s.scene.book x (next_entry s) in
      as_ties (waits_unless said_now s.tables conn tag fid) (grown_tables s k d) with_it (reads_then s k d)
      (openings_now s) (openings_then s k d) event_tables
      (record {
        events = ap (λ (b : BookState). b.reads) event_book ∙ read.0;
        ports = ap (λ (p : PortsState). p.reads) event_ports ∙ (deeds_more s d).reads;
        watch = ap (λ (w : WatchState). w.reads) event_watch ∙ (deeds_same s d).reads;
      })
      (record {
        owners = ap (λ (v : EventChange). (opened (read_book s k d) v).owners) alone.still
            ∙ ap (λ (b : BookState). b.owners) event_book ∙ read.1;
        joined = ap (λ (p : PortsState). p.joined) event_ports ∙ (deeds_more s d).joined;
        counts = ap (λ (w : WatchState). w.opened) event_watch ∙ (deeds_same s d).counts;
      })
      (event_waits said_now)

  own_read : (o : Option RBody) (w : Waiting) → IsIn (waits_unless o s.tables conn tag fid).waiting w
      → (heard (if_said conn tag opening o) w.conn w.tag ≡ false) ⊎ (gone_with conn d.effect w.conn w.tag ≡ true)
  own_read None w i = inl refl
  own_read (Some body) w i = own_free s.tables conn tag d.effect (read_response conn tag opening body) w refl
      refl (inl alone.free) i

  pub reads_right : IsToldRight s k d
  reads_right = record {
    clunk = λ w i. clunk_alone s d tied conn w alone.plain;
    own = λ w i. subst (λ (a : Option Answer). (heard (answer_said put s.scene.book conn tag a) w.conn w.tag ≡ false)
        ⊎ (gone_with conn d.effect w.conn w.tag ≡ true)) (sym is)
        (subst (λ (e : Effect). (heard (if_said conn tag opening
        (read_said (grown_with s.tables conn e) s.scene.book x)) w.conn w.tag ≡ false)
        ⊎ (gone_with conn d.effect w.conn w.tag ≡ true)) (sym alone.plain)
        (own_read said_now w (subst (λ (t : Tables). IsIn t.waiting w) event_tables i)));
    port = λ w i. ap (λ (a : Option Answer). heard (asked_said (read_tables s k d) (acted s d).ports
        (port_read_in conn tag a)) w.conn w.tag) is;
    watch = λ w i. ap (λ (a : Option Answer). heard (followed_said (port_tables s k d) (acted s d).watch
        (watch_read_in conn tag a (next_entry s))) w.conn w.tag) is;
    deleted = λ r i. deleted_alone s d tied
        (λ v. is_on_window (opened (read_book s k d) d.events).owners v r) r.conn r.tag alone.deleted;
    port_deleted = λ r i. other_alone s d tied r.conn r.tag alone.deleted;
    watch_deleted = λ r i. other_alone s d tied r.asker.conn r.asker.tag alone.deleted;
  }
