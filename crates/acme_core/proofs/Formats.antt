-- No event changes the format.
use Rattle.std.proofs.Common.{◌≡◌, ℕ, List, [], ◌∷◌, Option, Some, None, refl, ◌∙◌}
use Rattle.ninep_types.specs.declared.message.RBody.{RBody}
use Rattle.fid_table.specs.Tables.{Tables, after_join, after_done, after_hangup}
use Rattle.event_book.specs.BookState.{BookState}
use Rattle.plumb_ports.specs.PortsState.{PortsState}
use Rattle.acme_watch.specs.Watching.{WatchState}
use Rattle.core_fids.specs.declared.effect.Effect.{Effect}
use Rattle.core_fids.specs.declared.effect.Effect.TheVariants as effect
use Rattle.core_fids.specs.declared.effect.Answer.{Answer}
use Rattle.core_fids.specs.declared.effect.Answer.TheVariants.{Says, Reads, ReadsPort, ReadsWatch}
use Rattle.core_fids.specs.declared.effect.EventChange.{EventChange}
use Rattle.core_fids.specs.declared.effect.EventChange.TheVariants as events
use Rattle.core_events.specs.declared.response.Response.{Response}
use Rattle.core_events.specs.Asking.{read_said, waits_unless}
use Rattle.core_events.specs.PortAsking.{port_said}
use Rattle.core_events.specs.Waits.{ended, without_cancelled}
use Rattle.core_watch.specs.Asking.{watch_said}
use Rattle.core_watch.specs.declared.asking.ReadAt.{ReadAt}
use Rattle.core_parts.specs.declared.kind.Kind.{Kind}
use Rattle.core_parts.specs.declared.kind.Kind.TheVariants as kind
use Rattle.core_parts.specs.Connections.{grown_with, ended_with}
use Rattle.core_parts.specs.Doing.{Doing}
use Rattle.core_parts.specs.Kinds.{kind_of}
use Rattle.core_parts.specs.States.{Present, State, present, next_entry}
use Rattle.core_intents.specs.Doings.{doing_of}
use Rattle.core_steps.specs.declared.reading.PortRead.{PortRead}
use Rattle.core_steps.specs.PortReads.{port_read_in, asked_tables}
use Rattle.core_steps.specs.WatchReads.{watch_read_in, followed_tables}
use Rattle.core_steps.specs.Stages.{asker_of, answer_tables, acted, said, tables_after}
use Rattle.acme_core.specs.Laws.{KeepsFormat}
use Rattle.acme_core.specs.Run.{step}

grown_keeps : (t : Tables) (conn : ℕ) (f : Effect) → (grown_with t conn f).format ≡ t.format
grown_keeps t conn effect.Nothing = refl
grown_keeps t conn (effect.Begins msize) = refl
grown_keeps t conn (effect.Puts number fid) = refl
grown_keeps t conn (effect.Frees number) = refl

freed_keeps : (t : Tables) (conn : ℕ) (f : Effect) → (ended_with t conn f).format ≡ t.format
freed_keeps t conn effect.Nothing = refl
freed_keeps t conn (effect.Begins msize) = refl
freed_keeps t conn (effect.Puts number fid) = refl
freed_keeps t conn (effect.Frees number) = refl

ended_keeps : (t : Tables) (responses : List Response) → (ended t responses).format ≡ t.format
ended_keeps t [] = refl
ended_keeps t (r ∷ rs) = ended_keeps (after_done t r.conn r.message.tag) rs

cancelled_keeps : (t : Tables) (conn : ℕ) (v : EventChange) → (without_cancelled t conn v).format ≡ t.format
cancelled_keeps t conn events.Nothing = refl
cancelled_keeps t conn (events.Opens w) = refl
cancelled_keeps t conn (events.Cancels tag) = refl
cancelled_keeps t conn (events.Joins port) = refl
cancelled_keeps t conn (events.Watches file) = refl

waits_keeps : (t : Tables) (conn tag fid : ℕ) (o : Option RBody) → (waits_unless o t conn tag fid).format ≡ t.format
waits_keeps t conn tag fid None = refl
waits_keeps t conn tag fid (Some body) = refl

answer_keeps : (t : Tables) (b : BookState) (conn tag : ℕ) (a : Option Answer)
    → (answer_tables t b conn tag a).format ≡ t.format
answer_keeps t b conn tag None = refl
answer_keeps t b conn tag (Some (Says body)) = refl
answer_keeps t b conn tag (Some (Reads fid opening count)) = waits_keeps t conn tag fid
    (read_said t b (asker_of conn tag opening count))
answer_keeps t b conn tag (Some (ReadsPort fid opening count)) = refl
answer_keeps t b conn tag (Some (ReadsWatch fid opening count)) = refl

asked_keeps : (t : Tables) (p : PortsState) (r : Option PortRead) → (asked_tables t p r).format ≡ t.format
asked_keeps t p None = refl
asked_keeps t p (Some r) = waits_keeps t r.asker.conn r.asker.tag r.fid (port_said t p r.asker)

followed_keeps : (t : Tables) (w : WatchState) (r : Option ReadAt) → (followed_tables t w r).format ≡ t.format
followed_keeps t w None = refl
followed_keeps t w (Some r) = waits_keeps t r.read.asker.conn r.read.asker.tag r.fid (watch_said t w r.read)

tables_keep : (s : Present) (k : Kind) (d : Doing) → (tables_after s k d).format ≡ s.tables.format
tables_keep s (kind.Dials conn) d = ended_keeps (after_join s.tables conn) (said s (kind.Dials conn) d)
tables_keep s (kind.Asks conn tag) d =
    let put : Tables = grown_with s.tables conn d.effect in
    let read : Tables = answer_tables put s.scene.book conn tag d.answer in
    let port : Option PortRead = port_read_in conn tag d.answer in
    let asked : Tables = asked_tables read (acted s d).ports port in
    let read_at : Option ReadAt = watch_read_in conn tag d.answer (next_entry s) in
    let followed : Tables = followed_tables asked (acted s d).watch read_at in
    let left : Tables = ended_with followed conn d.effect in
    let responses : List Response = said s (kind.Asks conn tag) d in
    cancelled_keeps (ended left responses) conn d.events ∙ ended_keeps left responses
    ∙ freed_keeps followed conn d.effect ∙ followed_keeps asked (acted s d).watch read_at
    ∙ asked_keeps read (acted s d).ports port ∙ answer_keeps put s.scene.book conn tag d.answer
    ∙ grown_keeps s.tables conn d.effect
tables_keep s (kind.Ends conn why) d = ended_keeps (after_hangup s.tables conn) (said s (kind.Ends conn why) d)
tables_keep s (kind.Takes conn) d = ended_keeps s.tables (said s (kind.Takes conn) d)
tables_keep s kind.Acts d = ended_keeps s.tables (said s kind.Acts d)

pub format_stays : KeepsFormat
unfolding step
format_stays s e = tables_keep (present s) (kind_of e) (doing_of (present s) e)
