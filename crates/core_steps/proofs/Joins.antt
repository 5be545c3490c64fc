-- The connections that joined the sessions are those that were dialled, one event further.
use Rattle.std.proofs.Common.{◌≡◌, ◌≢◌, ℕ, ◌<◌, Bool, true, false, cond, eqb, ◌||◌, List, [], ◌∷◌, length, Option, Some}
use Rattle.std.proofs.Common.{None, refl, sym, ap, subst, ◌∙◌, arith}
use Rattle.std.specs.Prelude.{slice_set, IfSome}
use Rattle.std.specs.List.{list_any}
use Rattle.std.proofs.lemmas.Bool.{eqb-true, eqb-false}
use Rattle.std.proofs.lemmas.List.{get_or-set_same, get_or-set_other}
use Rattle.std.proofs.lemmas.List.Folds.{list_any-append}
use Rattle.core_parts.specs.declared.kind.Kind.{Kind}
use Rattle.core_parts.specs.declared.kind.Kind.TheVariants as kind
use Rattle.core_intents.proofs.Kinded.{IsNumbered, IsFound}
use Rattle.fid_table.specs.declared.session.Session.{Session}
use Rattle.fid_table.specs.Tables.{Tables, HasJoined, is_session, has_joined, on_session, put_in, taken_from, begun}
use Rattle.fid_table.specs.Tables.{after_join, after_done, after_hangup}
use Rattle.core_parts.specs.declared.connection.Connection.{Connection}
use Rattle.core_parts.specs.declared.connection.Connection.TheVariants.{Undialed, Live, Ended}
use Rattle.core_fids.specs.declared.effect.Effect.{Effect}
use Rattle.core_fids.specs.declared.effect.Effect.TheVariants as effect
use Rattle.core_parts.specs.Connections.{connection_at, connections_after, was_dialed, AreJoined, IsJoinedFor}
use Rattle.core_parts.specs.Connections.{IsOfJoined, grown, grown_with, ended_with}
use Rattle.core_intents.specs.Enabled.{dial_refusal, live_refusal}
use Rattle.core_parts.specs.States.{Present, next_entry}
use Rattle.core_steps.specs.Stages.{asker_of, answer_tables, message_tables, acted, said, tables_after}
use Rattle.core_parts.specs.Doing.{Doing}
use Rattle.ninep_types.specs.declared.message.RBody.{RBody}
use Rattle.event_book.specs.BookState.{BookState}
use Rattle.core_fids.specs.declared.effect.Answer.{Answer}
use Rattle.core_fids.specs.declared.effect.Answer.TheVariants.{Says, Reads, ReadsPort, ReadsWatch}
use Rattle.core_fids.specs.declared.effect.EventChange.{EventChange}
use Rattle.core_fids.specs.declared.effect.EventChange.TheVariants as events
use Rattle.core_events.specs.declared.response.Response.{Response}
use Rattle.core_events.specs.Asking.{read_said, waits_unless}
use Rattle.core_events.specs.Waits.{ended, without_cancelled}
use Rattle.plumb_ports.specs.PortsState.{PortsState}
use Rattle.core_events.specs.PortAsking.{port_said}
use Rattle.acme_watch.specs.Watching.{WatchState}
use Rattle.core_watch.specs.Asking.{watch_said}
use Rattle.core_watch.specs.declared.asking.ReadAt.{ReadAt}
use Rattle.core_intents.specs.Doings.{IsAnswerable}
use Rattle.core_steps.specs.declared.reading.PortRead.{PortRead}
use Rattle.core_steps.specs.PortReads.{port_read_in, port_read_of, asked_tables, IsReadable}
use Rattle.core_steps.specs.WatchReads.{watch_read_in, watch_read_of, followed_tables, IsFollowable}

-- ---- sessions keep their connections

module _ (change : Session → Session) (keeps : (s : Session) → (change s).conn ≡ s.conn) where
  any_kept : (conn x : ℕ) (ss : List Session) → list_any (is_session x)
      (on_session change conn ss) ≡ list_any (is_session x) ss
  any_kept conn x [] = refl
  any_kept conn x (s ∷ ss) =
      elim (eqb s.conn conn) as (λ t. list_any (is_session x) (cond t (change s ∷ ss) (s ∷ on_session change conn ss))
      ≡ (eqb s.conn x || list_any (is_session x) ss)) [
        | true ↦ ap (λ (c : ℕ). eqb c x || list_any (is_session x) ss) (keeps s)
        | false ↦ ap (λ (b : Bool). eqb s.conn x || b) (any_kept conn x ss)
      ]

grown_keeps : (t : Tables) (conn x : ℕ) (f : Effect) → has_joined (grown_with t conn f) x ≡ has_joined t x
grown_keeps t conn x effect.Nothing = refl
grown_keeps t conn x (effect.Begins msize) = refl
grown_keeps t conn x (effect.Puts number fid) = any_kept (put_in number fid) (λ s. refl) conn x t.sessions
grown_keeps t conn x (effect.Frees number) = refl

ended_with_keeps : (t : Tables) (conn x : ℕ) (f : Effect) → has_joined (ended_with t conn f) x ≡ has_joined t x
ended_with_keeps t conn x effect.Nothing = refl
ended_with_keeps t conn x (effect.Begins msize) = any_kept (begun msize) (λ s. refl) conn x t.sessions
ended_with_keeps t conn x (effect.Puts number fid) = refl
ended_with_keeps t conn x (effect.Frees number) = any_kept (taken_from number) (λ s. refl) conn x t.sessions

ended_keeps : (t : Tables) (x : ℕ) (responses : List Response) → has_joined (ended t responses) x ≡ has_joined t x
ended_keeps t x [] = refl
ended_keeps t x (r ∷ rs) = ended_keeps (after_done t r.conn r.message.tag) x rs

cancelled_keeps : (t : Tables) (conn x : ℕ) (v : EventChange) → has_joined (without_cancelled t conn v) x ≡ has_joined t
    x
cancelled_keeps t conn x events.Nothing = refl
cancelled_keeps t conn x (events.Opens w) = refl
cancelled_keeps t conn x (events.Cancels tag) = refl
cancelled_keeps t conn x (events.Joins port) = refl
cancelled_keeps t conn x (events.Watches file) = refl

waits_keeps : (t : Tables) (conn tag fid x : ℕ) (o : Option RBody)
    → has_joined (waits_unless o t conn tag fid) x ≡ has_joined t x
waits_keeps t conn tag fid x None = refl
waits_keeps t conn tag fid x (Some body) = refl

answer_keeps : (t : Tables) (b : BookState) (conn tag x : ℕ) (a : Option Answer)
    → has_joined (answer_tables t b conn tag a) x ≡ has_joined t x
answer_keeps t b conn tag x None = refl
answer_keeps t b conn tag x (Some (Says body)) = refl
answer_keeps t b conn tag x (Some (Reads fid opening count)) = waits_keeps t conn tag fid x
    (read_said t b (asker_of conn tag opening count))
answer_keeps t b conn tag x (Some (ReadsPort fid opening count)) = refl
answer_keeps t b conn tag x (Some (ReadsWatch fid opening count)) = refl

asked_keeps : (t : Tables) (p : PortsState) (r : Option PortRead) (x : ℕ)
    → has_joined (asked_tables t p r) x ≡ has_joined t x
asked_keeps t p None x = refl
asked_keeps t p (Some r) x = waits_keeps t r.asker.conn r.asker.tag r.fid x (port_said t p r.asker)

followed_keeps : (t : Tables) (w : WatchState) (r : Option ReadAt) (x : ℕ)
    → has_joined (followed_tables t w r) x ≡ has_joined t x
followed_keeps t w None x = refl
followed_keeps t w (Some r) x = waits_keeps t r.read.asker.conn r.read.asker.tag r.fid x (watch_said t w r.read)

or_false : (b : Bool) → (b || false) ≡ b
or_false true = refl
or_false false = refl

joined_more : (t : Tables) (conn x : ℕ) → has_joined (after_join t conn) x ≡ (has_joined t x || eqb conn x)
joined_more t conn x = list_any-append (is_session x) t.sessions _
    ∙ ap (λ (b : Bool). has_joined t x || b) (or_false (eqb conn x))

or_true : (b : Bool) → (b || true) ≡ true
or_true true = refl
or_true false = refl

-- ---- connections

pub here : (cs : List Connection) (c : ℕ) (v : Connection) → c < length cs → connection_at (slice_set cs c v) c ≡ v
here cs c v h = get_or-set_same cs c v Undialed h

pub elsewhere : (cs : List Connection) (c x : ℕ) (v : Connection) → x ≢ c
    → connection_at (slice_set cs c v) x ≡ connection_at cs x
elsewhere cs c x v h = get_or-set_other cs c x v Undialed h

dialed_live : (v : Connection) → live_refusal v ≡ None → was_dialed v ≡ true
dialed_live Undialed e = absurd cc
dialed_live Live e = refl
dialed_live (Ended why) e = absurd cc

undialed : (v : Connection) → dial_refusal v ≡ None → was_dialed v ≡ false
undialed Undialed e = refl
undialed Live e = absurd cc
undialed (Ended why) e = absurd cc

-- ---- one event

dial_joins : (cs : List Connection) (t : Tables) (conn : ℕ) → conn < length cs → AreJoined cs t
    → AreJoined (slice_set cs conn Live) (after_join t conn)
dial_joins cs t conn h all x =
    joined_more t conn x ∙
    elim (eqb conn x) as (λ b. eqb conn x ≡ b → (has_joined t x || b)
    ≡ was_dialed (connection_at (slice_set cs conn Live) x)) [
      | true ↦ λ e. or_true (has_joined t x) ∙ sym (ap was_dialed (ap (connection_at (slice_set cs conn Live))
          (sym (eqb-true conn x e)) ∙ here cs conn Live h))
      | false ↦ λ e. or_false (has_joined t x) ∙ all x ∙ sym (ap was_dialed
          (elsewhere cs conn x Live (λ (s : x ≡ conn). eqb-false conn x e (sym s))))
    ] refl

hang_joins : (cs : List Connection) (t : Tables) (conn : ℕ) (v : Connection) → conn < length cs
    → was_dialed v ≡ true → was_dialed (connection_at cs conn) ≡ true
    → AreJoined cs t → AreJoined (slice_set cs conn v) t
hang_joins cs t conn v h new old all x =
    elim (eqb conn x) as (λ b. eqb conn x ≡ b → has_joined t x ≡ was_dialed (connection_at (slice_set cs conn v) x)) [
      | true ↦ λ e. let same : conn ≡ x = eqb-true conn x e in
          all x ∙ ap (λ (y : ℕ). was_dialed (connection_at cs y)) (sym same) ∙ old ∙ sym new
          ∙ sym (ap was_dialed (ap (connection_at (slice_set cs conn v)) (sym same) ∙ here cs conn v h))
      | false ↦ λ e. all x ∙ sym (ap was_dialed (elsewhere cs conn x v (λ (s : x ≡ conn). eqb-false conn x e (sym s))))
    ] refl

pub joins_on : (s : Present) (k : Kind) (d : Doing) → length s.connections ≡ 64 → IsNumbered k → IsFound s.connections k
    → AreJoined s.connections s.tables
    → AreJoined (connections_after s.connections k) (tables_after s k d)
joins_on s (kind.Dials conn) d n h e all = λ x.
    ended_keeps (after_join s.tables conn) x (said s (kind.Dials conn) d)
    ∙ dial_joins s.connections s.tables conn (omega (arith, n, h)) all x
joins_on s (kind.Asks conn tag) d n h e all = λ x.
    let put : Tables = grown_with s.tables conn d.effect in
    let read : Tables = answer_tables put s.scene.book conn tag d.answer in
    let port : Option PortRead = port_read_in conn tag d.answer in
    let asked : Tables = asked_tables read (acted s d).ports port in
    let read_at : Option ReadAt = watch_read_in conn tag d.answer (next_entry s) in
    let followed : Tables = followed_tables asked (acted s d).watch read_at in
    let left : Tables = ended_with followed conn d.effect in
    let responses : List Response = said s (kind.Asks conn tag) d in
    cancelled_keeps (ended left responses) conn x d.events ∙ ended_keeps left x responses
    ∙ ended_with_keeps followed conn x d.effect ∙ followed_keeps asked (acted s d).watch read_at x
    ∙ asked_keeps read (acted s d).ports port x ∙ answer_keeps put s.scene.book conn tag x d.answer
    ∙ grown_keeps s.tables conn x d.effect ∙ all x
joins_on s (kind.Ends conn why) d n h e all = λ x.
    ended_keeps (after_hangup s.tables conn) x (said s (kind.Ends conn why) d)
    ∙ any_kept (begun None) (λ s. refl) conn x s.tables.sessions
    ∙ hang_joins s.connections s.tables conn (Ended why) (omega (arith, n, h)) refl
    (dialed_live (connection_at s.connections conn) e) all x
joins_on s (kind.Takes conn) d n h e all = λ x. ended_keeps s.tables x (said s (kind.Takes conn) d) ∙ all x
joins_on s kind.Acts d n h e all = λ x. ended_keeps s.tables x (said s kind.Acts d) ∙ all x

-- ---- what an enabled event finds

pub joined_for : (cs : List Connection) (t : Tables) (k : Kind) → IsFound cs k → AreJoined cs t → IsJoinedFor t k
joined_for cs t (kind.Dials conn) e all = all conn ∙ undialed (connection_at cs conn) e
joined_for cs t (kind.Asks conn tag) e all = all conn ∙ dialed_live (connection_at cs conn) e
joined_for cs t (kind.Ends conn why) e all = all conn ∙ dialed_live (connection_at cs conn) e
joined_for cs t (kind.Takes conn) e all = tt
joined_for cs t kind.Acts e all = tt

-- ---- growing, and then the rest

-- the connection of a message joined, also once its fid is put and its read waits
pub grown_joined : (t : Tables) (k : Kind) (f : Effect) → IsJoinedFor t k → IsOfJoined (grown t k f) k
grown_joined t (kind.Dials conn) f h = tt
grown_joined t (kind.Asks conn tag) f h = grown_keeps t conn conn f ∙ h
grown_joined t (kind.Ends conn why) f h = h
grown_joined t (kind.Takes conn) f h = tt
grown_joined t kind.Acts f h = tt

pub read_joined : (t : Tables) (b : BookState) (k : Kind) (a : Option Answer) → IsOfJoined t k
    → IsOfJoined (message_tables t b k a) k
read_joined t b (kind.Dials conn) a h = tt
read_joined t b (kind.Asks conn tag) a h = answer_keeps t b conn tag conn a ∙ h
read_joined t b (kind.Ends conn why) a h = h
read_joined t b (kind.Takes conn) a h = tt
read_joined t b kind.Acts a h = tt

pub asked_joined : (t : Tables) (p : PortsState) (r : Option PortRead) (k : Kind) → IsOfJoined t k
    → IsOfJoined (asked_tables t p r) k
asked_joined t p r (kind.Dials conn) h = tt
asked_joined t p r (kind.Asks conn tag) h = asked_keeps t p r conn ∙ h
asked_joined t p r (kind.Ends conn why) h = asked_keeps t p r conn ∙ h
asked_joined t p r (kind.Takes conn) h = tt
asked_joined t p r kind.Acts h = tt

pub followed_joined : (t : Tables) (w : WatchState) (r : Option ReadAt) (k : Kind) → IsOfJoined t k
    → IsOfJoined (followed_tables t w r) k
followed_joined t w r (kind.Dials conn) h = tt
followed_joined t w r (kind.Asks conn tag) h = followed_keeps t w r conn ∙ h
followed_joined t w r (kind.Ends conn why) h = followed_keeps t w r conn ∙ h
followed_joined t w r (kind.Takes conn) h = tt
followed_joined t w r kind.Acts h = tt

-- ---- the read of a port

readable_in : (t : Tables) (conn tag : ℕ) (a : Option Answer) → IsAnswerable a → HasJoined t conn
    → IfSome (port_read_in conn tag a) (IsReadable t)
readable_in t conn tag None short joined = tt
readable_in t conn tag (Some (Says body)) short joined = tt
readable_in t conn tag (Some (Reads fid opening count)) short joined = tt
readable_in t conn tag (Some (ReadsPort fid opening count)) short joined = record { short = short; joined = joined }
readable_in t conn tag (Some (ReadsWatch fid opening count)) short joined = tt

readable_of : (t : Tables) (k : Kind) (a : Option Answer) → IsAnswerable a → IsOfJoined t k
    → IfSome (port_read_of k a) (IsReadable t)
readable_of t (kind.Dials conn) a short joined = tt
readable_of t (kind.Asks conn tag) a short joined = readable_in t conn tag a short joined
readable_of t (kind.Ends conn why) a short joined = tt
readable_of t (kind.Takes conn) a short joined = tt
readable_of t kind.Acts a short joined = tt

pub readable : (t : Tables) (k : Kind) (a : Option Answer) (r : Option PortRead) → r ≡ port_read_of k a → IsAnswerable a
    → IsOfJoined t k → IfSome r (IsReadable t)
readable t k a r is short joined = subst (λ (x : Option PortRead). IfSome x (IsReadable t)) (sym is)
    (readable_of t k a short joined)

-- ---- the read of `log` or `jobs`

followable_in : (t : Tables) (conn tag : ℕ) (a : Option Answer) (at : ℕ) → IsAnswerable a → HasJoined t conn
    → IfSome (watch_read_in conn tag a at) (IsFollowable t)
followable_in t conn tag None at short joined = tt
followable_in t conn tag (Some (Says body)) at short joined = tt
followable_in t conn tag (Some (Reads fid opening count)) at short joined = tt
followable_in t conn tag (Some (ReadsPort fid opening count)) at short joined = tt
followable_in t conn tag (Some (ReadsWatch fid opening count)) at short joined =
    record { short = short; joined = joined }

followable_of : (t : Tables) (k : Kind) (a : Option Answer) (at : ℕ) → IsAnswerable a → IsOfJoined t k
    → IfSome (watch_read_of k a at) (IsFollowable t)
followable_of t (kind.Dials conn) a at short joined = tt
followable_of t (kind.Asks conn tag) a at short joined = followable_in t conn tag a at short joined
followable_of t (kind.Ends conn why) a at short joined = tt
followable_of t (kind.Takes conn) a at short joined = tt
followable_of t kind.Acts a at short joined = tt

pub followable : (t : Tables) (k : Kind) (a : Option Answer) (at : ℕ) (r : Option ReadAt) → r ≡ watch_read_of k a at
    → IsAnswerable a → IsOfJoined t k → IfSome r (IsFollowable t)
followable t k a at r is short joined = subst (λ (x : Option ReadAt). IfSome x (IsFollowable t)) (sym is)
    (followable_of t k a at short joined)

pub ruleset joining = (grown_joined, read_joined, asked_joined, followed_joined, readable, followable)
