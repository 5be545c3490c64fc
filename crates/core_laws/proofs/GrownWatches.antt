-- A message that reads `log` or `jobs`.
use Rattle.std.proofs.Common.{◌≡◌, inl, ℕ, false, eqb, ◌&&◌, Option, Some, None, refl, ap, subst, ◌∙◌}
use Rattle.ninep_types.specs.declared.message.RBody.{RBody}
use Rattle.fid_table.specs.declared.session.Waiting.{Waiting}
use Rattle.fid_table.specs.Tables.{Tables}
use Rattle.event_book.specs.BookState.{BookState, is_on_window}
use Rattle.plumb_ports.specs.PortsState.{PortsState}
use Rattle.acme_watch.specs.Watching.{WatchState}
use Rattle.acme_watch.specs.declared.types.WatchRead.{WatchRead}
use Rattle.core_fids.specs.Fids.{watch_opening}
use Rattle.core_fids.specs.declared.effect.Answer.{Answer}
use Rattle.core_fids.specs.declared.effect.Answer.TheVariants.{ReadsWatch}
use Rattle.core_fids.specs.declared.effect.Effect.{Effect}
use Rattle.core_fids.specs.declared.effect.EventChange.{EventChange}
use Rattle.core_fids.specs.declared.effect.WatchOpening.{WatchOpening}
use Rattle.core_events.specs.Asking.{opened, waits_unless}
use Rattle.core_events.specs.PortAsking.{joined_with}
use Rattle.core_watch.specs.Asking.{opened_with, watch_said, watch_read}
use Rattle.core_parts.specs.declared.kind.Kind.{Kind}
use Rattle.core_parts.specs.declared.kind.Kind.TheVariants as kind
use Rattle.core_parts.specs.Connections.{grown_with}
use Rattle.core_parts.specs.Doing.{Doing}
use Rattle.core_parts.specs.States.{Present, next_entry}
use Rattle.core_steps.specs.PortReads.{port_read_in, asked_said, asked_ports, asked_tables}
use Rattle.core_steps.specs.WatchReads.{watch_asked, watch_read_in, if_watch_said, followed_said, followed_watch}
use Rattle.core_steps.specs.WatchReads.{followed_tables}
use Rattle.core_steps.specs.Stages.{answer_said, answer_book, answer_tables, acted, read_tables, grown_tables}
use Rattle.core_steps.specs.Stages.{read_book}
use Rattle.core_steps.specs.Stages.{open_ports, open_watch}
use Rattle.core_laws.proofs.Lists.{IsIn}
use Rattle.core_laws.proofs.Staying.{heard}
use Rattle.core_laws.proofs.Ties.{FileReads, Ties, as_ties, ties_wait_watch}
use Rattle.core_laws.proofs.Waits.{reads_then, openings_then, TiedThen, IsToldRight}
use Rattle.core_laws.proofs.Watches.{with_follower, follow_reads}
use Rattle.core_laws.proofs.Grown.{AreTiedIn, reads_now, openings_now, deeds_more, deeds_same}
use Rattle.core_laws.proofs.GrownSays.{not_waiting, or_no}
use Rattle.core_laws.proofs.GrownReads.{ReadsAlone, clunk_alone, deleted_alone, other_alone}

module _ (s : Present) (conn tag : ℕ) (d : Doing) (tied : AreTiedIn s) (fid : ℕ) (opening : WatchOpening) (count : ℕ)
    (is : d.answer ≡ Some (ReadsWatch fid opening count)) (alone : ReadsAlone s conn tag d watch_opening fid opening)
  where
    abbrev k : Kind
    k = kind.Asks conn tag

    abbrev put : Tables
    put = grown_with s.tables conn d.effect

    abbrev x : WatchRead
    x = watch_asked conn tag opening count

    abbrev q : WatchState
    q = (acted s d).watch

    abbrev at : ℕ
    at = next_entry s

    -- what is said to it
    abbrev said_now : Option RBody
    said_now = watch_said s.tables q x

    -- the sessions as it finds them
    abbrev asked : Option Answer → Tables
    asked a = asked_tables (answer_tables put s.scene.book conn tag a) (acted s d).ports (port_read_in conn tag a)

    watch_grown : grown_tables s k d ≡ waits_unless said_now s.tables conn tag fid
    watch_grown =
        ap (λ (a : Option Answer). followed_tables (asked a) q (watch_read_in conn tag a at)) is
        ∙ ap (λ (e : Effect). waits_unless (watch_said (grown_with s.tables conn e) q x) (grown_with s.tables conn e)
        conn tag fid) alone.plain

    watch_book : read_book s k d ≡ s.scene.book
    watch_book = ap (λ (a : Option Answer). answer_book put s.scene.book conn tag a at) is

    watch_ports : open_ports s k d ≡ (acted s d).ports
    watch_ports = ap (λ (a : Option Answer). joined_with (asked_ports (read_tables s k d) (acted s d).ports
        (port_read_in conn tag a)) d.events) is ∙ ap (joined_with (acted s d).ports) alone.still

    watch_then : open_watch s k d ≡ watch_read s.tables q x at
    watch_then =
        ap (λ (a : Option Answer). opened_with (followed_watch (asked a) q (watch_read_in conn tag a at)) d.events) is
        ∙ ap (λ (e : Effect). opened_with (watch_read (grown_with s.tables conn e) q x at) d.events) alone.plain
        ∙ ap (opened_with (watch_read s.tables q x at)) alone.still

    -- the reads with this one, where it waits
    abbrev with_it : FileReads
    with_it = record (reads_now s) { watch = with_follower said_now x s.scene.watch.reads }

    watch_waits : (o : Option RBody) → Ties (waits_unless o s.tables conn tag fid)
        (record (reads_now s) { watch = with_follower o x s.scene.watch.reads }) (openings_now s)
    watch_waits (Some body) = tied.0
    watch_waits None = ties_wait_watch s.tables x fid alone.has.fid (reads_now s) (openings_now s) alone.has.is
        alone.has.opens alone.free tied.0

    pub watch_ties : TiedThen s k d
    watch_ties =
        let read = follow_reads s.tables q x at in
        as_ties (waits_unless said_now s.tables conn tag fid) (grown_tables s k d) with_it (reads_then s k d)
        (openings_now s) (openings_then s k d) watch_grown
        (record {
          events = ap (λ (b : BookState). b.reads) watch_book;
          ports = ap (λ (p : PortsState). p.reads) watch_ports ∙ (deeds_more s d).reads;
          watch = ap (λ (w : WatchState). w.reads) watch_then ∙ read.0
              ∙ ap (with_follower said_now x) (deeds_same s d).reads;
        })
        (record {
          owners = ap (λ (v : EventChange). (opened (read_book s k d) v).owners) alone.still
              ∙ ap (λ (b : BookState). b.owners) watch_book;
          joined = ap (λ (p : PortsState). p.joined) watch_ports ∙ (deeds_more s d).joined;
          counts = ap (λ (w : WatchState). w.opened) watch_then ∙ read.1 ∙ (deeds_same s d).counts;
        })
        (watch_waits said_now)

    own_watch : (o : Option RBody) (w : Waiting) → IsIn (waits_unless o s.tables conn tag fid).waiting w
        → heard (if_watch_said x o) w.conn w.tag ≡ false
    own_watch None w i = refl
    own_watch (Some body) w i = or_no (eqb w.conn conn && eqb w.tag tag)
        ∙ not_waiting conn tag s.tables.waiting w alone.free i

    pub watch_right : IsToldRight s k d
    watch_right = record {
      clunk = λ w i. clunk_alone s d tied conn w alone.plain;
      own = λ w i. inl (ap (λ (a : Option Answer). heard (answer_said put s.scene.book conn tag a) w.conn w.tag) is);
      port = λ w i. ap (λ (a : Option Answer). heard (asked_said (read_tables s k d) (acted s d).ports
          (port_read_in conn tag a)) w.conn w.tag) is;
      watch = λ w i.
          ap (λ (a : Option Answer). heard (followed_said (asked a) q (watch_read_in conn tag a at)) w.conn w.tag) is
          ∙ ap (λ (e : Effect). heard (if_watch_said x (watch_said (grown_with s.tables conn e) q x)) w.conn w.tag)
          alone.plain
          ∙ own_watch said_now w (subst (λ (t : Tables). IsIn t.waiting w) watch_grown i);
      deleted = λ r i. deleted_alone s d tied
          (λ v. is_on_window (opened (read_book s k d) d.events).owners v r) r.conn r.tag alone.deleted;
      port_deleted = λ r i. other_alone s d tied r.conn r.tag alone.deleted;
      watch_deleted = λ r i. other_alone s d tied r.asker.conn r.asker.tag alone.deleted;
    }
