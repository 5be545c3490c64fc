-- A message that reads a port.
use Rattle.std.proofs.Common.{◌≡◌, inl, ℕ, false, eqb, ◌&&◌, Option, Some, None, refl, ap, subst, ◌∙◌}
use Rattle.ninep_types.specs.declared.message.RBody.{RBody}
use Rattle.fid_table.specs.declared.session.Waiting.{Waiting}
use Rattle.fid_table.specs.Tables.{Tables}
use Rattle.wait_queue.specs.declared.types.Asker.{Asker}
use Rattle.event_book.specs.BookState.{BookState, is_on_window}
use Rattle.plumb_ports.specs.PortsState.{PortsState}
use Rattle.acme_watch.specs.Watching.{WatchState}
use Rattle.core_fids.specs.Fids.{port_opening}
use Rattle.core_fids.specs.declared.effect.Answer.{Answer}
use Rattle.core_fids.specs.declared.effect.Answer.TheVariants.{ReadsPort}
use Rattle.core_fids.specs.declared.effect.Effect.{Effect}
use Rattle.core_fids.specs.declared.effect.EventChange.{EventChange}
use Rattle.core_events.specs.Asking.{opened, waits_unless}
use Rattle.core_events.specs.PortAsking.{joined_with, port_said, ports_read}
use Rattle.core_watch.specs.Asking.{opened_with}
use Rattle.core_parts.specs.declared.kind.Kind.{Kind}
use Rattle.core_parts.specs.declared.kind.Kind.TheVariants as kind
use Rattle.core_parts.specs.Connections.{grown_with}
use Rattle.core_parts.specs.Doing.{Doing}
use Rattle.core_parts.specs.States.{Present, next_entry}
use Rattle.core_steps.specs.PortReads.{port_read_in, if_port_said, asked_said, asked_ports, asked_tables}
use Rattle.core_steps.specs.WatchReads.{watch_read_in, followed_said, followed_watch, followed_tables}
use Rattle.core_steps.specs.Stages.{asker_of, answer_said, answer_book, answer_tables, acted, port_tables, grown_tables}
use Rattle.core_steps.specs.Stages.{read_book, open_ports, open_watch}
use Rattle.core_laws.proofs.Lists.{IsIn}
use Rattle.core_laws.proofs.Staying.{heard}
use Rattle.core_laws.proofs.Growths.{with_asker, port_reads}
use Rattle.core_laws.proofs.Ties.{FileReads, Ties, as_ties, ties_wait_port}
use Rattle.core_laws.proofs.Waits.{reads_then, openings_then, TiedThen, IsToldRight}
use Rattle.core_laws.proofs.Grown.{AreTiedIn, reads_now, openings_now, deeds_more, deeds_same}
use Rattle.core_laws.proofs.GrownSays.{not_waiting, or_no}
use Rattle.core_laws.proofs.GrownReads.{ReadsAlone, clunk_alone, deleted_alone, other_alone}

module _ (s : Present) (conn tag : ℕ) (d : Doing) (tied : AreTiedIn s) (fid opening count : ℕ)
    (is : d.answer ≡ Some (ReadsPort fid opening count)) (alone : ReadsAlone s conn tag d port_opening fid opening)
  where
    abbrev k : Kind
    k = kind.Asks conn tag

    abbrev put : Tables
    put = grown_with s.tables conn d.effect

    abbrev x : Asker
    x = asker_of conn tag opening count

    abbrev q : PortsState
    q = (acted s d).ports

    -- what is said to it
    abbrev said_now : Option RBody
    said_now = port_said s.tables q x

    port_grown : grown_tables s k d ≡ waits_unless said_now s.tables conn tag fid
    port_grown =
        ap (λ (a : Option Answer). followed_tables (asked_tables (answer_tables put s.scene.book conn tag a) q
        (port_read_in conn tag a)) (acted s d).watch (watch_read_in conn tag a (next_entry s))) is
        ∙ ap (λ (e : Effect). waits_unless (port_said (grown_with s.tables conn e) q x) (grown_with s.tables conn e)
        conn tag fid) alone.plain

    port_book : read_book s k d ≡ s.scene.book
    port_book = ap (λ (a : Option Answer). answer_book put s.scene.book conn tag a (next_entry s)) is

    port_then : open_ports s k d ≡ ports_read s.tables q x
    port_then =
        ap (λ (a : Option Answer). joined_with (asked_ports (answer_tables put s.scene.book conn tag a) q
        (port_read_in conn tag a)) d.events) is
        ∙ ap (λ (e : Effect). joined_with (ports_read (grown_with s.tables conn e) q x) d.events) alone.plain
        ∙ ap (joined_with (ports_read s.tables q x)) alone.still

    port_watch : open_watch s k d ≡ (acted s d).watch
    port_watch = ap (λ (a : Option Answer). opened_with (followed_watch (port_tables s k d) (acted s d).watch
        (watch_read_in conn tag a (next_entry s))) d.events) is ∙ ap (opened_with (acted s d).watch) alone.still

    -- the reads with this one, where it waits
    abbrev with_it : FileReads
    with_it = record (reads_now s) { ports = with_asker said_now x s.scene.ports.reads }

    port_waits : (o : Option RBody) → Ties (waits_unless o s.tables conn tag fid)
        (record (reads_now s) { ports = with_asker o x s.scene.ports.reads }) (openings_now s)
    port_waits (Some body) = tied.0
    port_waits None = ties_wait_port s.tables x fid alone.has.fid (reads_now s) (openings_now s) alone.has.is
        alone.has.opens alone.free tied.0

    pub port_ties : TiedThen s k d
    port_ties =
        let read = port_reads s.tables q x in
        as_ties (waits_unless said_now s.tables conn tag fid) (grown_tables s k d) with_it (reads_then s k d)
        (openings_now s) (openings_then s k d) port_grown
        (record {
          events = ap (λ (b : BookState). b.reads) port_book;
          ports = ap (λ (p : PortsState). p.reads) port_then ∙ read.0 ∙ ap (with_asker said_now x) (deeds_more s d).reads;
          watch = ap (λ (w : WatchState). w.reads) port_watch ∙ (deeds_same s d).reads;
        })
        (record {
          owners = ap (λ (v : EventChange). (opened (read_book s k d) v).owners) alone.still
              ∙ ap (λ (b : BookState). b.owners) port_book;
          joined = ap (λ (p : PortsState). p.joined) port_then ∙ read.1 ∙ (deeds_more s d).joined;
          counts = ap (λ (w : WatchState). w.opened) port_watch ∙ (deeds_same s d).counts;
        })
        (port_waits said_now)

    own_port : (o : Option RBody) (w : Waiting) → IsIn (waits_unless o s.tables conn tag fid).waiting w
        → heard (if_port_said x o) w.conn w.tag ≡ false
    own_port None w i = refl
    own_port (Some body) w i = or_no (eqb w.conn conn && eqb w.tag tag)
        ∙ not_waiting conn tag s.tables.waiting w alone.free i

    pub port_right : IsToldRight s k d
    port_right = record {
      clunk = λ w i. clunk_alone s d tied conn w alone.plain;
      own = λ w i. inl (ap (λ (a : Option Answer). heard (answer_said put s.scene.book conn tag a) w.conn w.tag) is);
      port = λ w i.
          ap (λ (a : Option Answer). heard (asked_said (answer_tables put s.scene.book conn tag a) q
          (port_read_in conn tag a)) w.conn w.tag) is
          ∙ ap (λ (e : Effect). heard (if_port_said x (port_said (grown_with s.tables conn e) q x)) w.conn w.tag)
          alone.plain
          ∙ own_port said_now w (subst (λ (t : Tables). IsIn t.waiting w) port_grown i);
      watch = λ w i. ap (λ (a : Option Answer). heard (followed_said (port_tables s k d) (acted s d).watch
          (watch_read_in conn tag a (next_entry s))) w.conn w.tag) is;
      deleted = λ r i. deleted_alone s d tied
          (λ v. is_on_window (opened (read_book s k d) d.events).owners v r) r.conn r.tag alone.deleted;
      port_deleted = λ r i. other_alone s d tied r.conn r.tag alone.deleted;
      watch_deleted = λ r i. other_alone s d tied r.asker.conn r.asker.tag alone.deleted;
    }
