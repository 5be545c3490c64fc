-- What a step makes before it ends anything, in the sessions, the event files and the ports: the same reads.
use Rattle.std.proofs.Common.{◌≡◌, ℕ, zero, suc, ◌+◌, ◌≤◌, ◌<◌, Bool, true, false, not, cond, nat_lt, ◌&&◌, ◌||◌, List}
use Rattle.std.proofs.Common.{[], ◌∷◌, ◌++◌, length, map, Option, Some, None, refl, sym, ap, subst, ◌∙◌, arith}
use Rattle.std.specs.List.{list_any}
use Rattle.std.proofs.lemmas.Bool.{ltb-true, false_from_ne_true}
use Rattle.std.proofs.lemmas.Bool.Decides.{nat_tests}
use Rattle.std.proofs.lemmas.List.{length-append}
use Rattle.acme_tree.specs.declared.node.Node.{Node}
use Rattle.acme_tree.specs.declared.node.Node.TheVariants as node
use Rattle.acme_tree.specs.declared.node.World.{World}
use Rattle.acme_tree.specs.Trees.{is_live}
use Rattle.acme_tree.specs.declared.node.WinFile.TheVariants as file
use Rattle.ninep_types.specs.declared.message.RBody.{RBody}
use Rattle.ninep_types.specs.declared.message.RBody.TheVariants as answer
use Rattle.fid_table.specs.declared.types.Fid.{Fid}
use Rattle.fid_table.specs.Tables.{Tables}
use Rattle.wait_queue.specs.declared.types.Asked.TheVariants.{Now, Waits}
use Rattle.wait_queue.specs.declared.types.Asker.{Asker}
use Rattle.acme_watch.specs.declared.types.WatchRead.{WatchRead}
use Rattle.event_book.specs.BookState.{BookState, is_living, read_waits, piece_for, asked_of, after_add, after_answer}
use Rattle.event_book.specs.BookState.{is_on_window}
use Rattle.plumb_ports.specs.PortList.{Port, named, names_of, number_of, with_name, kept_of, with_kept}
use Rattle.plumb_ports.specs.Inboxes.{delivered}
use Rattle.plumb_ports.specs.PortsState.{PortsState, is_open, has_joined, read_waits as port_waits}
use Rattle.plumb_ports.specs.PortsState.{piece_for as port_piece, asked_of as port_asked, after_ask as after_port_ask}
use Rattle.plumb_ports.specs.PortsState.{after_answer as after_port_answer, after_join, delivered_at, delivered_on}
use Rattle.plumb_ports.specs.Laws.{AreNumbered, Join}
use Rattle.plumb_ports.proofs.NumberLemmas.{numbered, on_numbers, ask_numbers, call_numbers}
use Rattle.core_scene.specs.declared.deed.Deed.{Deed}
use Rattle.core_scene.specs.declared.deed.Deed.TheVariants as deed
use Rattle.core_scene.specs.declared.deed.Entry.{Entry}
use Rattle.core_scene.specs.Scenes.{SceneState, done, done_all}
use Rattle.core_fids.specs.Contents.{content_of}
use Rattle.core_fids.specs.Fids.{event_opening, port_opening, watch_opening}
use Rattle.core_fids.specs.Opening.{opening_refusal, content_refusal, opening_events, opening_of}
use Rattle.core_fids.specs.Plumbers.{Plumber}
use Rattle.core_fids.specs.declared.server.Opened.{Opened}
use Rattle.core_fids.specs.declared.effect.EventChange.{EventChange}
use Rattle.core_fids.specs.declared.effect.EventChange.TheVariants as events
use Rattle.core_fids.specs.declared.refusal.Refusal.{Refusal}
use Rattle.core_fids.specs.declared.refusal.Refusal.TheVariants as refusal
use Rattle.core_fids.specs.Refusals.{refusal_text}
use Rattle.core_events.specs.Asking.{opened, reads_are_full, said_to, book_asked, read_said, book_read}
use Rattle.core_events.specs.Waits.{is_event_of, is_of_window, deletions}
use Rattle.core_events.specs.PortAsking.{next_opening, can_join, joined_with, read_refusal, said_unless, read_unless}
use Rattle.core_events.specs.PortAsking.{port_said, ports_read}
use Rattle.core_laws.specs.Waits.{WaitingRead, told, watch_told}
use Rattle.core_laws.proofs.Lists.{IsIn}
use Rattle.core_laws.proofs.Zips.{HasWaiting, asker_waits}
use Rattle.core_laws.proofs.Holders.{AreOfWindows, owner_pushed}
use Rattle.core_laws.proofs.Reactions.{IsNew}
use Rattle.core_laws.proofs.Staying.{heard, heard_deleted}
use Rattle.core_laws.proofs.Keys.{by_window, by_no_window, port_no_window, watch_no_window}
use Rattle.core_laws.proofs.Ties.{FileReads, Openings, Ties, KeepOwners}

-- ---- openings of event files

pub owners_more : (b : BookState) (e : EventChange) → (length b.owners ≤ length (opened b e).owners)
    × KeepOwners b.owners (opened b e).owners
owners_more b events.Nothing = (omega arith, λ o w h. h)
owners_more b (events.Opens v) =
    elim (nat_lt (length b.owners) 4294967295) as (λ t. (length b.owners ≤ length (cond t (after_add b v) b).owners)
    × KeepOwners b.owners (cond t (after_add b v) b).owners) [
      | true ↦ (omega (arith, length-append b.owners (v ∷ [])), λ o w h. owner_pushed b.owners v o w h)
      | false ↦ (omega arith, λ o w h. h)
    ]
owners_more b (events.Joins port) = (omega arith, λ o w h. h)
owners_more b (events.Watches file) = (omega arith, λ o w h. h)
owners_more b (events.Cancels tag) = (omega arith, λ o w h. h)

pub counted_true : (n : ℕ) → opening_refusal n ≡ None → nat_lt n 4294967295 ≡ true
counted_true n h =
    (elim (nat_lt n 4294967295) as (λ b. cond b None (Some refusal.TooManyOpenings) ≡ None → b ≡ true) [
      | true ↦ λ k. refl
      | false ↦ λ k. absurd cc
    ]) h

-- one that is newly opened has the next number, and is one of its window
pub new_event : (world : World) (plumber : Plumber) (counted : Opened) (b : BookState) (e : EventChange) (v : Fid)
    (w o : ℕ) → counted.events ≡ length b.owners → IsNew world plumber counted e v → v.node ≡ node.File w file.Event
    → v.opening ≡ Some o
    → (o ≡ length b.owners + 1) × ((opened b e).owners ≡ b.owners ++ w ∷ [])
new_event world plumber counted b e v w o count new at opens =
    let number : Some (counted.events + 1) ≡ Some o = ap (λ (n : Node). opening_of plumber counted (content_of n))
    (sym at) ∙ sym new.opening ∙ opens in
    let adds : e ≡ events.Opens w = new.events ∙ ap (λ (n : Node). opening_events (content_of n)) at in
    let counts : opening_refusal counted.events ≡ None = ap (λ (n : Node). content_refusal plumber counted
    (content_of n)) (sym at) ∙ new.counted in
    let same : counted.events + 1 ≡ o = cc in (
      sym same ∙ ap (λ (n : ℕ). n + 1) count,
      ap (λ (x : EventChange). (opened b x).owners) adds ∙ ap (λ (t : Bool). (cond t (after_add b w) b).owners)
          (ap (λ (n : ℕ). nat_lt n 4294967295) (sym count) ∙ counted_true counted.events counts),
    )

-- ---- deeds

-- the same reads wait, no opening joined, and the ports are there still
pub record IsMore (p q : PortsState) : Type 0 where
  pub reads : q.reads ≡ p.reads
  pub joined : q.joined ≡ p.joined
  pub ports : length p.ports ≤ length q.ports
  pub numbers : AreNumbered p → AreNumbered q

more_itself : (p : PortsState) → IsMore p p
more_itself p = record { reads = refl; joined = refl; ports = omega arith; numbers = λ h. h }

more_then : (p q u : PortsState) → IsMore p q → IsMore q u → IsMore p u
more_then p q u a b = record {
  reads = b.reads ∙ a.reads;
  joined = b.joined ∙ a.joined;
  ports = let x : length p.ports ≤ length q.ports = a.ports in let y : length q.ports ≤ length u.ports = b.ports in
      omega (arith, x, y);
  numbers = λ h. b.numbers (a.numbers h);
}

kept_long : (ps : List Port) (port : ℕ) (messages : List (List ℕ)) → length (with_kept ps port messages) ≡ length ps
kept_long [] port messages = refl
kept_long (p ∷ ps) zero messages = refl
kept_long (p ∷ ps) (suc port) messages = ap suc (kept_long ps port messages)

add_more : (s : PortsState) (name : List ℕ) (o : Option ℕ) → IsMore s (record s { ports = with_name o s.ports name })
add_more s name None = record {
  reads = refl;
  joined = refl;
  ports =
      omega (arith, length-append s.ports (named name ∷ []));
  numbers = λ h. h;
}
add_more s name (Some port) = more_itself s

delivered_parts : (s : PortsState) (message : List ℕ) (port : ℕ)
    → ((delivered_at s port message).reads ≡ s.reads) × ((delivered_at s port message).joined ≡ s.joined)
    × (length s.ports ≤ length (delivered_at s port message).ports)
delivered_parts s message port =
    let copied : PortsState = record s { openings = map (delivered port message) s.openings } in
    let kept : PortsState = record s { ports = with_kept s.ports port (kept_of s.ports port ++ message ∷ []) } in
    elim (is_open s port) as (λ b. ((cond b copied kept).reads ≡ s.reads) × ((cond b copied kept).joined ≡ s.joined)
    × (length s.ports ≤ length (cond b copied kept).ports)) [
      | true ↦ (refl, refl, omega arith)
      | false ↦ (refl, refl, omega (arith, kept_long s.ports port (kept_of s.ports port ++ message ∷ [])))
    ]

deliver_more : (s : PortsState) (message : List ℕ) (o : Option ℕ) → IsMore s (delivered_on o s message)
deliver_more s message None = more_itself s
deliver_more s message (Some port) =
    let parts = delivered_parts s message port in record {
      reads = parts.0;
      joined = parts.1;
      ports = parts.2;
      numbers =
          λ h. on_numbers (Some port) s message h;
    }

deed_more : (e : Entry) (s : SceneState) (d : Deed) → IsMore s.ports (done e s d).ports
deed_more e s (deed.Windows c) = more_itself s.ports
deed_more e s (deed.Item w item) = more_itself s.ports
deed_more e s (deed.Snarfs text) = more_itself s.ports
deed_more e s (deed.Stores path bytes) = more_itself s.ports
deed_more e s (deed.MakesDir path) = more_itself s.ports
deed_more e s (deed.Requests job) = more_itself s.ports
deed_more e s (deed.Notes w op) = more_itself s.ports
deed_more e s (deed.AddsRules sets vars text) = more_itself s.ports
deed_more e s deed.ClearsRules = more_itself s.ports
deed_more e s (deed.AddsPort name) = add_more s.ports name (number_of s.ports.ports name)
deed_more e s (deed.Delivers name message keep) = deliver_more s.ports message (number_of s.ports.ports name)

pub acted_more : (e : Entry) (s : SceneState) (ds : List Deed) → IsMore s.ports (done_all e s ds).ports
acted_more e s [] = more_itself s.ports
acted_more e s (d ∷ ds) = more_then s.ports (done e s d).ports (done_all e (done e s d) ds).ports (deed_more e s d)
    (acted_more e (done e s d) ds)

-- ---- openings of ports

pub joined_more : (p : PortsState) (e : EventChange) → ((joined_with p e).reads ≡ p.reads)
    × (p.joined ≤ (joined_with p e).joined)
joined_more p events.Nothing = (refl, omega arith)
joined_more p (events.Opens w) = (refl, omega arith)
joined_more p (events.Joins port) =
    elim (can_join p port) as (λ b. ((cond b (after_join p port (next_opening p)) p).reads ≡ p.reads)
    × (p.joined ≤ (cond b (after_join p port (next_opening p)) p).joined)) [
      | true ↦ (refl, omega arith)
      | false ↦ (refl, omega arith)
    ]
joined_more p (events.Watches file) = (refl, omega arith)
joined_more p (events.Cancels tag) = (refl, omega arith)

pub joined_numbers : (p : PortsState) (e : EventChange) → AreNumbered p → AreNumbered (joined_with p e)
joined_numbers p events.Nothing h = h
joined_numbers p (events.Opens w) h = h
joined_numbers p (events.Joins port) h =
    elim (can_join p port) as (λ b. AreNumbered (cond b (after_join p port (next_opening p)) p)) [
      | true ↦ call_numbers p (Join port (next_opening p)) refl h
      | false ↦ h
    ]
joined_numbers p (events.Watches file) h = h
joined_numbers p (events.Cancels tag) h = h

names_long : (ps : List Port) → length (names_of ps) ≡ length ps
names_long [] = refl
names_long (p ∷ ps) = ap suc (names_long ps)

-- one that is newly opened has the next number, and joins
pub new_port : (world : World) (plumber : Plumber) (counted : Opened) (before p : PortsState) (e : EventChange)
    (v : Fid) (k o : ℕ) → plumber.names ≡ names_of before.ports → plumber.joined ≡ before.joined → IsMore before p
    → AreNumbered p → IsNew world plumber counted e v → v.node ≡ node.Port k → v.opening ≡ Some o
    → (o ≡ before.joined + 1) × ((joined_with p e).joined ≡ before.joined + 1)
new_port world plumber counted before p e v k o names count more numbers new at opens =
    let number : Some (plumber.joined + 1) ≡ Some o = ap (λ (n : Node). opening_of plumber counted (content_of n))
    (sym at) ∙ sym new.opening ∙ opens in
    let same : plumber.joined + 1 ≡ o = cc in
    let joins : e ≡ events.Joins k = new.events ∙ ap (λ (n : Node). opening_events (content_of n)) at in
    let counts : opening_refusal plumber.joined ≡ None = ap (λ (n : Node). content_refusal plumber counted
    (content_of n)) (sym at) ∙ new.counted in
    let few : nat_lt p.joined 4294967295 ≡ true = ap (λ (n : ℕ). nat_lt n 4294967295) (more.joined ∙ sym count)
    ∙ counted_true plumber.joined counts in
    let live : nat_lt k (length plumber.names) ≡ true = port_live at new.live in
    let inside : nat_lt k (length p.ports) ≡ true =
    (let low : k < length plumber.names = ltb-true k (length plumber.names) live in
    let long : length plumber.names ≡ length before.ports = ap length names ∙ names_long before.ports in
    let later : length before.ports ≤ length p.ports = more.ports in grind (arith, nat_tests))
    in
    let fresh : has_joined p (next_opening p) ≡ false =
    false_from_ne_true (has_joined p (next_opening p)) (λ t. let low : p.joined + 1 ≤ p.joined = numbered p.joined
    p.openings (next_opening p) numbers t in absurd (omega (arith, low)))
    in
    let can : can_join p k ≡ true = ap (λ (b : Bool). (b && nat_lt p.joined 4294967295)
    && not (has_joined p (next_opening p))) inside
    ∙ ap (λ (b : Bool). b && not (has_joined p (next_opening p))) few ∙ ap not fresh
    in (
      sym same ∙ ap (λ (n : ℕ). n + 1) count,
      ap (λ (x : EventChange). (joined_with p x).joined) joins ∙ ap
          (λ (b : Bool). (cond b (after_join p k (next_opening p)) p).joined) can ∙ ap (λ (n : ℕ). n + 1) more.joined,
    )
  where
    port_live : v.node ≡ node.Port k → is_live world plumber.names v.node ≡ true → nat_lt k
        (length plumber.names) ≡ true
    port_live is h = ap (is_live world plumber.names) (sym is) ∙ h

-- ---- a read of an event file

-- the reads with this one behind, where nothing is said to it
abbrev pub with_asker : Option RBody → Asker → List Asker → List Asker
with_asker None r rs = rs ++ r ∷ []
with_asker (Some body) r rs = rs

pub read_reads : (t : Tables) (b : BookState) (r : Asker) (at : ℕ)
    → ((book_read t b r at).reads ≡ with_asker (read_said t b r) r b.reads) × ((book_read t b r at).owners ≡ b.owners)
read_reads t b r at = by (is_living b r.opening)
  where
    waits : (w : Bool) → read_waits b r ≡ w → (full : Bool)
        → ((book_asked full (cond w Waits (Now (piece_for b r))) b r at).reads
        ≡ with_asker (said_to full (cond w Waits (Now (piece_for b r)))) r b.reads)
        × ((book_asked full (cond w Waits (Now (piece_for b r))) b r at).owners ≡ b.owners)
    waits true e true = (refl, refl)
    waits true e false = (
      ap (λ (x : Bool). (cond x (record b { reads = b.reads ++ r ∷ []; latest = at }) (after_answer b r at)).reads) e,
      ap (λ (x : Bool). (cond x (record b { reads = b.reads ++ r ∷ []; latest = at }) (after_answer b r at)).owners) e,
    )
    waits false e full = (
      ap (λ (x : Bool). (cond x (record b { reads = b.reads ++ r ∷ []; latest = at }) (after_answer b r at)).reads) e,
      ap (λ (x : Bool). (cond x (record b { reads = b.reads ++ r ∷ []; latest = at }) (after_answer b r at)).owners) e,
    )

    by : (living : Bool)
        → ((cond living (book_asked (reads_are_full t r.conn) (asked_of b r) b r at) b).reads
        ≡ with_asker (cond living (said_to (reads_are_full t r.conn) (asked_of b r))
        (Some (answer.Error (refusal_text refusal.WindowDeleted)))) r b.reads)
        × ((cond living (book_asked (reads_are_full t r.conn) (asked_of b r) b r at) b).owners ≡ b.owners)
    by true = waits (read_waits b r) refl (reads_are_full t r.conn)
    by false = (refl, refl)

-- ---- a read of a port

pub port_reads : (t : Tables) (p : PortsState) (r : Asker) → ((ports_read t p r).reads ≡ with_asker (port_said t p r) r
    p.reads) × ((ports_read t p r).joined ≡ p.joined)
port_reads t p r = by (read_refusal t p r)
  where
    waits : (w : Bool) → port_waits p r ≡ w → ((after_port_ask p r).reads
        ≡ with_asker (said_unless None (cond w Waits (Now (port_piece p r)))) r p.reads)
        × ((after_port_ask p r).joined ≡ p.joined)
    waits true e = (
      ap (λ (x : Bool). (cond x (record p { reads = p.reads ++ r ∷ [] }) (after_port_answer p r)).reads)
          e,
      ap (λ (x : Bool). (cond x (record p { reads = p.reads ++ r ∷ [] }) (after_port_answer p r)).joined) e,
    )
    waits false e = (
      ap (λ (x : Bool). (cond x (record p { reads = p.reads ++ r ∷ [] }) (after_port_answer p r)).reads)
          e,
      ap (λ (x : Bool). (cond x (record p { reads = p.reads ++ r ∷ [] }) (after_port_answer p r)).joined) e,
    )

    by : (o : Option Refusal) → ((read_unless o p r).reads ≡ with_asker (said_unless o (port_asked p r)) r p.reads)
        × ((read_unless o p r).joined ≡ p.joined)
    by (Some x) = (refl, refl)
    by None = waits (port_waits p r) refl

pub read_numbers : (t : Tables) (p : PortsState) (r : Asker) → AreNumbered p → AreNumbered (ports_read t p r)
read_numbers t p r h = by (read_refusal t p r)
  where
    by : (o : Option Refusal) → AreNumbered (read_unless o p r)
    by (Some x) = h
    by None = ask_numbers p r h

-- ---- who is told of a deletion

any_same : (p q : ℕ → Bool) (xs : List ℕ) → ((x : ℕ) → p x ≡ q x) → list_any p xs ≡ list_any q xs
any_same p q [] h = refl
any_same p q (x ∷ xs) h = ap (λ (b : Bool). b || list_any p xs) (h x) ∙ ap (λ (b : Bool). q x || b) (any_same p q xs h)

any_none : (p : ℕ → Bool) (xs : List ℕ) → ((x : ℕ) → p x ≡ false) → list_any p xs ≡ false
any_none p [] h = refl
any_none p (x ∷ xs) h = ap (λ (b : Bool). b || list_any p xs) (h x) ∙ any_none p xs h

module _ (t : Tables) (r : FileReads) (o next : Openings) (ties : Ties t r o) (windows : List ℕ) where
  key_of : (P : ℕ → ℕ → Type 0) (a b c d : ℕ) → a ≡ c → b ≡ d → P a b → P c d
  key_of P a b c d e f h = subst (λ (y : ℕ). P c y) f (subst (λ (x : ℕ). P x b) e h)

  pub deleted_right : KeepOwners o.owners next.owners → (x : Asker) → IsIn r.events x
      → heard (deletions t windows) x.conn x.tag ≡ list_any (λ v. is_on_window next.owners v x) windows
  deleted_right keep x i =
      let h : HasWaiting event_opening t t.waiting (told x) =
      asker_waits event_opening t told t.waiting r.events ties.events x i in
      let later : AreOfWindows next.owners t = λ c e w y j n g. keep y w (ties.windows c e w y j n g) in
      key_of (λ (c g : ℕ). heard (deletions t windows) c g ≡ list_any (λ v. is_on_window next.owners v x) windows)
      h.waiting.conn h.waiting.tag x.conn x.tag h.conn h.tag
      (heard_deleted t windows h.waiting ties.apart h.there ∙ any_same (λ (v : ℕ). is_of_window t v h.waiting)
      (λ (v : ℕ). is_on_window next.owners v x) windows (λ v. by_window t next.owners later t.waiting x h v))

  -- of another kind none is
  other_deleted : {O : Type 0} (which : Fid → Option O) → ((f : Fid) (y : O) → which f ≡ Some y → (v : ℕ)
      → is_event_of v f.node ≡ false) → (x : WaitingRead O) → HasWaiting which t t.waiting x
      → heard (deletions t windows) x.conn x.tag ≡ false
  other_deleted which other x h =
      key_of (λ (c g : ℕ). heard (deletions t windows) c g ≡ false) h.waiting.conn h.waiting.tag x.conn x.tag h.conn
      h.tag
      (heard_deleted t windows h.waiting ties.apart h.there ∙ any_none (λ (v : ℕ). is_of_window t v h.waiting) windows
      (λ v. by_no_window which other t t.waiting x h v))

  pub port_deleted_right : (x : Asker) → IsIn r.ports x → heard (deletions t windows) x.conn x.tag ≡ false
  port_deleted_right x i = other_deleted port_opening port_no_window (told x)
      (asker_waits port_opening t told t.waiting r.ports ties.ports x i)

  pub watch_deleted_right : (x : WatchRead) → IsIn r.watch x → heard (deletions t windows) x.asker.conn x.asker.tag
      ≡ false
  watch_deleted_right x i = other_deleted watch_opening watch_no_window (watch_told x)
      (asker_waits watch_opening t watch_told t.waiting r.watch ties.watch x i)
