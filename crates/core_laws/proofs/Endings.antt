-- What a step ends, in the sessions, the event files and the ports: the same reads.
use Rattle.std.proofs.Common.{◌≡◌, ◌≢◌, ℕ, Bool, true, false, eqb, ◌&&◌, ◌||◌, List, find, nat_eq, Option, Some, None}
use Rattle.std.proofs.Common.{refl, sym, ap, subst, ◌∙◌}
use Rattle.std.specs.Map.{lookup}
use Rattle.std.proofs.lemmas.Bool.{eqb-true, eqb-false, both_ways}
use Rattle.fid_table.specs.declared.types.Fid.{Fid}
use Rattle.fid_table.specs.declared.session.Session.{Session}
use Rattle.fid_table.specs.declared.session.Waiting.{Waiting}
use Rattle.fid_table.specs.Tables.{Tables, is_session, fids_in, fid_of, fids_of, after_take, after_version}
use Rattle.fid_table.specs.Tables.{after_hangup}
use Rattle.fid_table.proofs.LawLemmas.{leaves, drops}
use Rattle.wait_queue.specs.declared.types.Asker.{Asker}
use Rattle.event_book.specs.BookState.{BookState}
use Rattle.plumb_ports.specs.PortsState.{PortsState}
use Rattle.core_fids.specs.Fids.{event_opening, port_opening}
use Rattle.core_fids.specs.declared.effect.Effect.{Effect}
use Rattle.core_fids.specs.declared.effect.Effect.TheVariants as effect
use Rattle.core_fids.specs.declared.effect.EventChange.{EventChange}
use Rattle.core_fids.specs.declared.effect.EventChange.TheVariants as events
use Rattle.core_fids.specs.declared.refusal.Refusal.TheVariants as refusal
use Rattle.core_events.specs.declared.response.Response.{Response}
use Rattle.core_events.specs.Closing.{freed, cancelled, opening_in}
use Rattle.core_events.specs.Waits.{is_of_fid, clunked, ended, without_cancelled}
use Rattle.core_events.specs.PortClosing.{ports_freed, ports_cancelled, opening_in as port_in}
use Rattle.core_parts.specs.declared.kind.Kind.{Kind}
use Rattle.core_parts.specs.declared.kind.Kind.TheVariants as kind
use Rattle.core_parts.specs.Connections.{ended_with}
use Rattle.core_parts.specs.Doing.{Doing}
use Rattle.core_closing.specs.Closing.{left_book, left_ports, ended_tables}
use Rattle.core_laws.specs.Waits.{opening_by, AreApart}
use Rattle.core_laws.proofs.Books.{IsBook}
use Rattle.core_laws.proofs.Lists.{without, without_both, without_none, IsIn}
use Rattle.core_laws.proofs.Zips.{by_waiting, by_asker, same_key}
use Rattle.core_laws.proofs.Holders.{take_has, version_has, same_has, AreFewer}
use Rattle.core_laws.proofs.Staying.{heard, ended_without, heard_by, is_there, is_of_one, left_without, left_owners}
use Rattle.core_laws.proofs.Staying.{fids_without, fids_owners, port_left, port_left_joined, port_fids_without}
use Rattle.core_laws.proofs.Staying.{port_fids_joined}
use Rattle.core_laws.proofs.Wells.{done_sessions, cancelled_sessions}

-- ---- keys, and reads by their openings

-- the reads of this connection go
abbrev pub gone_with : ℕ → Effect → ℕ → ℕ → Bool
gone_with conn effect.Nothing c g = false
gone_with conn (effect.Begins msize) c g = eqb c conn
gone_with conn (effect.Puts number fid) c g = false
gone_with conn (effect.Frees number) c g = false

abbrev pub gone : Kind → Effect → ℕ → ℕ → Bool
gone (kind.Dials conn) e c g = false
gone (kind.Asks conn tag) e c g = gone_with conn e c g
gone (kind.Ends conn why) e c g = eqb c conn
gone (kind.Takes conn) e c g = false
gone kind.Acts e c g = false

-- the read with this tag is cancelled
abbrev pub cancels_with : ℕ → EventChange → ℕ → ℕ → Bool
cancels_with conn events.Nothing c g = false
cancels_with conn (events.Opens w) c g = false
cancels_with conn (events.Joins port) c g = false
cancels_with conn (events.Watches file) c g = false
cancels_with conn (events.Cancels tag) c g = eqb c conn && eqb g tag

abbrev pub cancels : Kind → EventChange → ℕ → ℕ → Bool
cancels (kind.Dials conn) v c g = false
cancels (kind.Asks conn tag) v c g = cancels_with conn v c g
cancels (kind.Ends conn why) v c g = false
cancels (kind.Takes conn) v c g = false
cancels kind.Acts v c g = false

-- the fid of the read is freed by a clunk
abbrev pub clunks_with : ℕ → Effect → Waiting → Bool
clunks_with conn effect.Nothing w = false
clunks_with conn (effect.Begins msize) w = false
clunks_with conn (effect.Puts number fid) w = false
clunks_with conn (effect.Frees number) w = is_of_fid conn number w

abbrev pub clunks : Kind → Effect → Waiting → Bool
clunks (kind.Dials conn) e w = false
clunks (kind.Asks conn tag) e w = clunks_with conn e w
clunks (kind.Ends conn why) e w = false
clunks (kind.Takes conn) e w = false
clunks kind.Acts e w = false

-- the opening of the read closes with its fid
abbrev pub closes_with : (Fid → Option ℕ) → Tables → ℕ → Effect → Asker → Bool
closes_with which t conn effect.Nothing r = false
closes_with which t conn (effect.Begins msize) r = is_of_one which (fids_of t conn) r
closes_with which t conn (effect.Puts number fid) r = false
closes_with which t conn (effect.Frees number) r = is_there (opening_by which (fid_of t conn number)) r

abbrev pub closes : (Fid → Option ℕ) → Tables → Kind → Effect → Asker → Bool
closes which t (kind.Dials conn) e r = false
closes which t (kind.Asks conn tag) e r = closes_with which t conn e r
closes which t (kind.Ends conn why) e r = is_of_one which (fids_of t conn) r
closes which t (kind.Takes conn) e r = false
closes which t kind.Acts e r = false

-- those that are left when an event of this kind has ended what it does
abbrev pub leaves_read : (Fid → Option ℕ) → Tables → Kind → Doing → Asker → Bool
leaves_read which t k d r = closes which t k d.effect r || cancels k d.events r.conn r.tag

none_goes : (rs : List Asker) → rs ≡ without (λ r. false) rs
none_goes rs = sym (without_none (λ (r : Asker). false) rs (λ k d l. refl))

none_waits : (ws : List Waiting) → ws ≡ without (λ w. false) ws
none_waits ws = sym (without_none (λ (w : Waiting). false) ws (λ k d l. refl))

-- ---- in the event files

abbrev Plain : Asker → Type 0
Plain r = Unit {0}

freed_without : (at : ℕ) (b : BookState) (t : Tables) (conn : ℕ) (e : Effect) → IsBook Plain at b
    → (freed at b t conn e).reads ≡ without (closes_with event_opening t conn e) b.reads
freed_without at b t conn effect.Nothing book = none_goes b.reads
freed_without at b t conn (effect.Begins msize) book = fids_without at b (fids_of t conn) book
freed_without at b t conn (effect.Puts number fid) book = none_goes b.reads
freed_without at b t conn (effect.Frees number) book =
    left_without at b (opening_in (fid_of t conn number)) book.lawful
    ∙ ap (λ (o : Option ℕ). without (is_there o) b.reads) (same (fid_of t conn number))
  where
    same : (o : Option Fid) → opening_in o ≡ opening_by event_opening o
    same None = refl
    same (Some f) = refl

freed_owners : (at : ℕ) (b : BookState) (t : Tables) (conn : ℕ) (e : Effect) → (freed at b t conn e).owners ≡ b.owners
freed_owners at b t conn effect.Nothing = refl
freed_owners at b t conn (effect.Begins msize) = fids_owners at b (fids_of t conn)
freed_owners at b t conn (effect.Puts number fid) = refl
freed_owners at b t conn (effect.Frees number) = left_owners at b (opening_in (fid_of t conn number))

cancelled_without : (b : BookState) (conn : ℕ) (v : EventChange) →
    (cancelled b conn v).reads ≡ without (by_asker (cancels_with conn v)) b.reads
cancelled_without b conn events.Nothing = none_goes b.reads
cancelled_without b conn (events.Opens w) = none_goes b.reads
cancelled_without b conn (events.Joins port) = none_goes b.reads
cancelled_without b conn (events.Watches file) = none_goes b.reads
cancelled_without b conn (events.Cancels tag) = refl

cancelled_owners : (b : BookState) (conn : ℕ) (v : EventChange) → (cancelled b conn v).owners ≡ b.owners
cancelled_owners b conn events.Nothing = refl
cancelled_owners b conn (events.Opens w) = refl
cancelled_owners b conn (events.Joins port) = refl
cancelled_owners b conn (events.Watches file) = refl
cancelled_owners b conn (events.Cancels tag) = refl

or_nothing : (p : Asker → Bool) (rs : List Asker) → without p rs ≡ without (λ r. p r || false) rs
or_nothing p rs = none_goes (without p rs) ∙ without_both (λ (r : Asker). false) p rs

pub left_book_without : (at : ℕ) (t : Tables) (k : Kind) (d : Doing) (b : BookState) → IsBook Plain at b
    → (left_book at t k d b).reads ≡ without (leaves_read event_opening t k d) b.reads
left_book_without at t (kind.Dials conn) d b book = none_goes b.reads
left_book_without at t (kind.Asks conn tag) d b book =
    cancelled_without (freed at b t conn d.effect) conn d.events
    ∙ ap (without (by_asker (cancels_with conn d.events))) (freed_without at b t conn d.effect book)
    ∙ without_both (by_asker (cancels_with conn d.events)) (closes_with event_opening t conn d.effect) b.reads
left_book_without at t (kind.Ends conn why) d b book = fids_without at b (fids_of t conn) book
    ∙ or_nothing (is_of_one event_opening (fids_of t conn)) b.reads
left_book_without at t (kind.Takes conn) d b book = none_goes b.reads
left_book_without at t kind.Acts d b book = none_goes b.reads

pub left_book_owners : (at : ℕ) (t : Tables) (k : Kind) (d : Doing) (b : BookState)
    → (left_book at t k d b).owners ≡ b.owners
left_book_owners at t (kind.Dials conn) d b = refl
left_book_owners at t (kind.Asks conn tag) d b = cancelled_owners (freed at b t conn d.effect) conn d.events
    ∙ freed_owners at b t conn d.effect
left_book_owners at t (kind.Ends conn why) d b = fids_owners at b (fids_of t conn)
left_book_owners at t (kind.Takes conn) d b = refl
left_book_owners at t kind.Acts d b = refl

-- ---- in the ports

ports_freed_without : (p : PortsState) (t : Tables) (conn : ℕ) (e : Effect)
    → (ports_freed p t conn e).reads ≡ without (closes_with port_opening t conn e) p.reads
ports_freed_without p t conn effect.Nothing = none_goes p.reads
ports_freed_without p t conn (effect.Begins msize) = port_fids_without p (fids_of t conn)
ports_freed_without p t conn (effect.Puts number fid) = none_goes p.reads
ports_freed_without p t conn (effect.Frees number) = port_left p (port_in (fid_of t conn number))
    ∙ ap (λ (o : Option ℕ). without (is_there o) p.reads) (same (fid_of t conn number))
  where
    same : (o : Option Fid) → port_in o ≡ opening_by port_opening o
    same None = refl
    same (Some f) = refl

ports_freed_joined : (p : PortsState) (t : Tables) (conn : ℕ) (e : Effect) → (ports_freed p t conn e).joined ≡ p.joined
ports_freed_joined p t conn effect.Nothing = refl
ports_freed_joined p t conn (effect.Begins msize) = port_fids_joined p (fids_of t conn)
ports_freed_joined p t conn (effect.Puts number fid) = refl
ports_freed_joined p t conn (effect.Frees number) = port_left_joined p (port_in (fid_of t conn number))

ports_cancelled_without : (p : PortsState) (conn : ℕ) (v : EventChange)
    → (ports_cancelled p conn v).reads ≡ without (by_asker (cancels_with conn v)) p.reads
ports_cancelled_without p conn events.Nothing = none_goes p.reads
ports_cancelled_without p conn (events.Opens w) = none_goes p.reads
ports_cancelled_without p conn (events.Joins port) = none_goes p.reads
ports_cancelled_without p conn (events.Watches file) = none_goes p.reads
ports_cancelled_without p conn (events.Cancels tag) = refl

ports_cancelled_joined : (p : PortsState) (conn : ℕ) (v : EventChange) → (ports_cancelled p conn v).joined ≡ p.joined
ports_cancelled_joined p conn events.Nothing = refl
ports_cancelled_joined p conn (events.Opens w) = refl
ports_cancelled_joined p conn (events.Joins port) = refl
ports_cancelled_joined p conn (events.Watches file) = refl
ports_cancelled_joined p conn (events.Cancels tag) = refl

pub left_ports_without : (t : Tables) (k : Kind) (d : Doing) (p : PortsState)
    → (left_ports t k d p).reads ≡ without (leaves_read port_opening t k d) p.reads
left_ports_without t (kind.Dials conn) d p = none_goes p.reads
left_ports_without t (kind.Asks conn tag) d p =
    ports_cancelled_without (ports_freed p t conn d.effect) conn d.events
    ∙ ap (without (by_asker (cancels_with conn d.events))) (ports_freed_without p t conn d.effect)
    ∙ without_both (by_asker (cancels_with conn d.events)) (closes_with port_opening t conn d.effect) p.reads
left_ports_without t (kind.Ends conn why) d p = port_fids_without p (fids_of t conn)
    ∙ or_nothing (is_of_one port_opening (fids_of t conn)) p.reads
left_ports_without t (kind.Takes conn) d p = none_goes p.reads
left_ports_without t kind.Acts d p = none_goes p.reads

pub left_ports_joined : (t : Tables) (k : Kind) (d : Doing) (p : PortsState) → (left_ports t k d p).joined ≡ p.joined
left_ports_joined t (kind.Dials conn) d p = refl
left_ports_joined t (kind.Asks conn tag) d p = ports_cancelled_joined (ports_freed p t conn d.effect) conn d.events
    ∙ ports_freed_joined p t conn d.effect
left_ports_joined t (kind.Ends conn why) d p = port_fids_joined p (fids_of t conn)
left_ports_joined t (kind.Takes conn) d p = refl
left_ports_joined t kind.Acts d p = refl

-- ---- in the sessions

-- the keys of the reads that wait no more
abbrev pub ends_key : Kind → Doing → List Response → ℕ → ℕ → Bool
ends_key k d xs c g = (gone k d.effect c g || heard xs c g) || cancels k d.events c g

gone_without : (t : Tables) (conn : ℕ) (e : Effect) → (ended_with t conn e).waiting
    ≡ without (by_waiting (gone_with conn e)) t.waiting
gone_without t conn effect.Nothing = none_waits t.waiting
gone_without t conn (effect.Begins msize) = refl
gone_without t conn (effect.Puts number fid) = none_waits t.waiting
gone_without t conn (effect.Frees number) = none_waits t.waiting

tables_cancelled_without : (t : Tables) (conn : ℕ) (v : EventChange)
    → (without_cancelled t conn v).waiting ≡ without (by_waiting (cancels_with conn v)) t.waiting
tables_cancelled_without t conn events.Nothing = none_waits t.waiting
tables_cancelled_without t conn (events.Opens w) = none_waits t.waiting
tables_cancelled_without t conn (events.Joins port) = none_waits t.waiting
tables_cancelled_without t conn (events.Watches file) = none_waits t.waiting
tables_cancelled_without t conn (events.Cancels tag) = refl

waits_or_nothing : (p : Waiting → Bool) (ws : List Waiting) → without p ws ≡ without (λ w. p w || false) ws
waits_or_nothing p ws = none_waits (without p ws) ∙ without_both (λ (w : Waiting). false) p ws

plainly_ended : (t : Tables) (xs : List Response) → (ended t xs).waiting
    ≡ without (λ w. (false || heard xs w.conn w.tag) || false) t.waiting
plainly_ended t xs = ended_without t xs ∙ waits_or_nothing (λ (w : Waiting). heard xs w.conn w.tag) t.waiting

pub ended_tables_without : (t : Tables) (k : Kind) (d : Doing) (xs : List Response)
    → (ended_tables t k d xs).waiting ≡ without (by_waiting (ends_key k d xs)) t.waiting
ended_tables_without t (kind.Dials conn) d xs = plainly_ended t xs
ended_tables_without t (kind.Asks conn tag) d xs =
    let left : Tables = ended_with t conn d.effect in
    tables_cancelled_without (ended left xs) conn d.events
    ∙ ap (without (by_waiting (cancels_with conn d.events)))
    (ended_without left xs ∙ ap (without (λ (w : Waiting). heard xs w.conn w.tag)) (gone_without t conn d.effect)
    ∙ without_both (λ (w : Waiting). heard xs w.conn w.tag) (by_waiting (gone_with conn d.effect)) t.waiting)
    ∙ without_both (by_waiting (cancels_with conn d.events)) (λ (w : Waiting). gone_with conn d.effect w.conn w.tag
    || heard xs w.conn w.tag) t.waiting
ended_tables_without t (kind.Ends conn why) d xs =
    ended_without (after_hangup t conn) xs
    ∙ without_both (λ (w : Waiting). heard xs w.conn w.tag) (λ (w : Waiting). eqb w.conn conn) t.waiting
    ∙ waits_or_nothing (λ (w : Waiting). eqb w.conn conn || heard xs w.conn w.tag) t.waiting
ended_tables_without t (kind.Takes conn) d xs = plainly_ended t xs
ended_tables_without t kind.Acts d xs = plainly_ended t xs

-- ---- the fids of the others

same_sessions : (t u : Tables) → u.sessions ≡ t.sessions → (conn n : ℕ) → fid_of u conn n ≡ fid_of t conn n
same_sessions t u same conn n = ap (λ (ss : List Session). lookup (nat_eq n) (fids_in (find (is_session conn) ss))) same

taken_stays : (t : Tables) (c n : ℕ) (w : Waiting) → is_of_fid c n w ≡ false → fid_of (after_take t c n) w.conn
    w.fid ≡ fid_of t w.conn w.fid
taken_stays t c n w other = by (eqb w.conn c) refl
  where
    by : (b : Bool) → eqb w.conn c ≡ b → fid_of (after_take t c n) w.conn w.fid ≡ fid_of t w.conn w.fid
    by true e =
        let at : w.conn ≡ c = eqb-true w.conn c e in
        let off : w.fid ≢ n = λ (s : w.fid ≡ n). both_ways (is_of_fid c n w) other (same_key w.conn w.fid c n at s) in
        subst (λ (x : ℕ). fid_of (after_take t c n) x w.fid ≡ fid_of t x w.fid) (sym at)
        (leaves.take_number t c n w.fid off)
    by false e = ap (lookup (nat_eq w.fid)) (leaves.take_conn t c n w.conn (eqb-false w.conn c e))

version_stays : (t : Tables) (c : ℕ) (msize : Option ℕ) (w : Waiting)
    → eqb w.conn c ≡ false → fid_of (after_version t c msize) w.conn w.fid ≡ fid_of t w.conn w.fid
version_stays t c msize w other = ap (lookup (nat_eq w.fid)) (drops.other_fids t c w.conn msize
    (eqb-false w.conn c other))

with_stays : (t : Tables) (conn : ℕ) (e : Effect) (w : Waiting) → gone_with conn e w.conn w.tag ≡ false →
    clunks_with conn e w ≡ false → fid_of (ended_with t conn e) w.conn w.fid ≡ fid_of t w.conn w.fid
with_stays t conn effect.Nothing w g c = refl
with_stays t conn (effect.Begins msize) w g c = version_stays t conn msize w g
with_stays t conn (effect.Puts number fid) w g c = refl
with_stays t conn (effect.Frees number) w g c = taken_stays t conn number w c

pub fid_stays : (t : Tables) (k : Kind) (d : Doing) (xs : List Response) (w : Waiting)
    → gone k d.effect w.conn w.tag ≡ false → clunks k d.effect w ≡ false
    → fid_of (ended_tables t k d xs) w.conn w.fid ≡ fid_of t w.conn w.fid
fid_stays t (kind.Dials conn) d xs w g c = same_sessions t (ended t xs) (done_sessions t xs) w.conn w.fid
fid_stays t (kind.Asks conn tag) d xs w g c =
    let left : Tables = ended_with t conn d.effect in
    same_sessions (ended left xs) (without_cancelled (ended left xs) conn d.events)
    (cancelled_sessions (ended left xs) conn d.events) w.conn w.fid
    ∙ same_sessions left (ended left xs) (done_sessions left xs) w.conn w.fid
    ∙ with_stays t conn d.effect w g c
fid_stays t (kind.Ends conn why) d xs w g c =
    let left : Tables = after_hangup t conn in
    same_sessions left (ended left xs) (done_sessions left xs) w.conn w.fid ∙ version_stays t conn None w g
fid_stays t (kind.Takes conn) d xs w g c = same_sessions t (ended t xs) (done_sessions t xs) w.conn w.fid
fid_stays t kind.Acts d xs w g c = same_sessions t (ended t xs) (done_sessions t xs) w.conn w.fid

with_fewer : (t : Tables) (conn : ℕ) (e : Effect) → AreFewer (ended_with t conn e) t
with_fewer t conn effect.Nothing x f i = i
with_fewer t conn (effect.Begins msize) x f i = version_has t conn msize x f i
with_fewer t conn (effect.Puts number fid) x f i = i
with_fewer t conn (effect.Frees number) x f i = take_has t conn number x f i

pub fewer_fids : (t : Tables) (k : Kind) (d : Doing) (xs : List Response) → AreFewer (ended_tables t k d xs) t
fewer_fids t (kind.Dials conn) d xs x f i = same_has t (ended t xs) (done_sessions t xs) x f i
fewer_fids t (kind.Asks conn tag) d xs x f i =
    let left : Tables = ended_with t conn d.effect in
    with_fewer t conn d.effect x f
    (same_has left (ended left xs) (done_sessions left xs) x f
    (same_has (ended left xs) (without_cancelled (ended left xs) conn d.events)
    (cancelled_sessions (ended left xs) conn d.events) x f i))
fewer_fids t (kind.Ends conn why) d xs x f i =
    let left : Tables = after_hangup t conn in version_has t conn None x f
    (same_has left (ended left xs) (done_sessions left xs) x f i)
fewer_fids t (kind.Takes conn) d xs x f i = same_has t (ended t xs) (done_sessions t xs) x f i
fewer_fids t kind.Acts d xs x f i = same_has t (ended t xs) (done_sessions t xs) x f i

-- ---- who is told of a clunk

pub heard_clunk : (t : Tables) (conn : ℕ) (e : Effect) (w : Waiting) → AreApart t.waiting
    → ((number : ℕ) → e ≡ effect.Frees number → IsIn t.waiting w) → heard (clunked t conn e) w.conn
    w.tag ≡ clunks_with conn e w
heard_clunk t conn effect.Nothing w apart there = refl
heard_clunk t conn (effect.Begins msize) w apart there = refl
heard_clunk t conn (effect.Puts number fid) w apart there = refl
heard_clunk t conn (effect.Frees number) w apart there = heard_by refusal.FidClunked t (is_of_fid conn number) t.waiting
    w apart (there number refl)
