-- Waiting reads of ports that can't be answered, call by call.
use Rattle.std.proofs.Common.{◌≡◌, ◌≢◌, ℕ, zero, suc, ◌+◌, ◌≤◌, ◌==◌, Bool, true, false, not, cond, List, [], ◌∷◌, ◌++◌}
use Rattle.std.proofs.Common.{length, find, nat_lt, fold, Option, Some, None, option_map, refl, sym, ap, subst, ◌∙◌}
use Rattle.std.proofs.Common.{arith}
use Rattle.std.specs.List.{list_all, list_any, filter}
use Rattle.std.proofs.lemmas.Bool.{eqb-true}
use Rattle.std.proofs.lemmas.Bool.Decides.{nat_tests}
use Rattle.fid_table.specs.declared.types.Fid.{Fid}
use Rattle.fid_table.specs.Tables.{Tables, fids_of, fid_of}
use Rattle.wait_queue.specs.Reads.{is_on, is_read}
use Rattle.wait_queue.specs.declared.types.Asker.{Asker}
use Rattle.wait_queue.specs.declared.types.Piece.{Piece}
use Rattle.plumb_ports.specs.Inboxes.{Inbox, is_of, inbox_of, must_wait, after_piece_from, after_piece, after_read}
use Rattle.plumb_ports.specs.PortsState.{PortsState, is_ready, read_waits, piece_for, next_of, served_of, after_answer}
use Rattle.plumb_ports.specs.PortsState.{after_ask, after_serve, after_leave}
use Rattle.plumb_ports.proofs.LawLemmas.{inbox-missing, inbox-read, inbox-read_other, any-read, inbox-left}
use Rattle.core_fids.specs.Fids.{port_opening}
use Rattle.core_fids.specs.declared.effect.Effect.{Effect}
use Rattle.core_fids.specs.declared.effect.Effect.TheVariants as effect
use Rattle.core_fids.specs.declared.effect.EventChange.{EventChange}
use Rattle.core_fids.specs.declared.effect.EventChange.TheVariants as events
use Rattle.core_fids.specs.declared.refusal.Refusal.{Refusal}
use Rattle.core_events.proofs.Idles.{all_weaker, all_filter, all_push, none_found, find_none, no_length, parts}
use Rattle.core_events.proofs.Idles.{no_reads}
use Rattle.core_events.specs.PortAsking.{read_refusal, read_unless, ports_read}
use Rattle.core_events.specs.PortClosing.{without_opening, without_fid, ports_without_fids, opening_in, ports_freed}
use Rattle.core_events.specs.PortClosing.{ports_cancelled}
use Rattle.core_events.specs.PortServing.{after_serving_most, ports_served, ports_after_serving}
use Rattle.core_events.specs.PortSound.{ArePortsIdle}
use Rattle.core_events.proofs.PortTurns.{next_less, idle, after_none_more, all_none, after_all_none}

-- ---- each waiting read has to wait

abbrev waits_in : List Inbox → Asker → Bool
waits_in os r = must_wait (inbox_of os r.opening) r.count

not_not : (b : Bool) → not b ≡ false → b ≡ true
not_not true e = refl
not_not false e = absurd cc

all_wait : (s : PortsState) → ArePortsIdle s → list_all (waits_in s.openings) s.reads ≡ true
all_wait s h = none_found (is_ready s.openings) (waits_in s.openings) s.reads (λ r e. not_not (waits_in s.openings r) e)
    h

none_ready : (os : List Inbox) (rs : List Asker) → list_all (waits_in os) rs ≡ true → find (is_ready os) rs ≡ None
none_ready os rs h = find_none (is_ready os) (waits_in os) rs (λ r e. ap not e) h

-- ---- a read

quiet_piece : (carry : List ℕ) (messages : List (List ℕ)) (o : Inbox) (n : ℕ) → carry ≡ [] → messages ≡ []
    → after_piece_from carry messages o n ≡ o
quiet_piece [] [] o n c m = refl
quiet_piece (b ∷ bs) messages o n c m = absurd cc
quiet_piece [] (x ∷ xs) o n c m = absurd cc

-- where a read has to wait, no read takes anything
nothing_left : (o : Inbox) (count n : ℕ) → must_wait o count ≡ true → after_piece o n ≡ o
nothing_left o count n h =
    let p : ((count == 0) ≡ false) × (nat_lt 0 (length o.carry) ≡ false) × (nat_lt 0 (length o.messages) ≡ false) =
    parts (count == 0) (nat_lt 0 (length o.carry)) (nat_lt 0 (length o.messages)) h
    in
    elim (n == 0) as (λ b. cond b o (after_piece_from o.carry o.messages o n) ≡ o) [
      | true ↦ refl
      | false ↦ quiet_piece o.carry o.messages o n (no_length o.carry p.1) (no_length o.messages p.2)
    ]

inbox_stays : (os : List Inbox) (x count n : ℕ) → must_wait (inbox_of os x) count ≡ true → inbox_of (after_read os x n)
    x ≡ inbox_of os x
inbox_stays os x count n h = by (list_any (is_of x) os) refl
  where
    by : (b : Bool) → list_any (is_of x) os ≡ b → inbox_of (after_read os x n) x ≡ inbox_of os x
    by true e = inbox-read os x n e ∙ nothing_left (inbox_of os x) count n h
    by false e = inbox-missing (after_read os x n) x (any-read os x x n ∙ e) ∙ sym (inbox-missing os x e)

waits_read : (os : List Inbox) (x n : ℕ) (r : Asker) → waits_in os r ≡ true → waits_in (after_read os x n) r ≡ true
waits_read os x n r h = by (r.opening == x) refl
  where
    by : (b : Bool) → (r.opening == x) ≡ b → waits_in (after_read os x n) r ≡ true
    by true e =
        let same : r.opening ≡ x = eqb-true r.opening x e in
        ap (λ (o : Inbox). must_wait o r.count)
        (subst (λ (y : ℕ). inbox_of (after_read os y n) r.opening ≡ inbox_of os r.opening) same
        (inbox_stays os r.opening r.count n h))
        ∙ h
    by false e =
        let other : r.opening ≢ x = grind (arith, nat_tests) in
        ap (λ (o : Inbox). must_wait o r.count) (inbox-read_other os x r.opening n other) ∙ h

idle_answer : (s : PortsState) (r : Asker) → ArePortsIdle s → ArePortsIdle (after_answer s r)
idle_answer s r h =
    let after : List Inbox = after_read s.openings r.opening r.count in
    none_ready after s.reads
    (all_weaker (waits_in s.openings) (waits_in s.openings) (waits_in after) s.reads
    (λ x a b. waits_read s.openings r.opening r.count x a) (all_wait s h) (all_wait s h))

idle_ask : (s : PortsState) (r : Asker) → ArePortsIdle s → ArePortsIdle (after_ask s r)
idle_ask s r h = by (read_waits s r) refl
  where
    waiting : PortsState
    waiting = record s { reads = s.reads ++ r ∷ [] }

    by : (b : Bool) → read_waits s r ≡ b → ArePortsIdle (after_ask s r)
    by true e =
        subst (λ (b : Bool). ArePortsIdle (cond b waiting (after_answer s r))) (sym e)
        (none_ready s.openings (s.reads ++ r ∷ []) (all_push (waits_in s.openings) s.reads r e (all_wait s h)))
    by false e = subst (λ (b : Bool). ArePortsIdle (cond b waiting (after_answer s r))) (sym e) (idle_answer s r h)

pub idle_read : (t : Tables) (s : PortsState) (asker : Asker) → ArePortsIdle s → ArePortsIdle (ports_read t s asker)
idle_read t s asker h = unless (read_refusal t s asker)
  where
    unless : (o : Option Refusal) → ArePortsIdle (read_unless o s asker)
    unless None = idle_ask s asker h
    unless (Some refusal) = h

-- ---- what ends

pub idle_leave : (s : PortsState) (opening : ℕ) → ArePortsIdle s → ArePortsIdle (after_leave s opening)
idle_leave s opening h =
    let os : List Inbox = filter (λ o. not (is_of opening o)) s.openings in
    none_ready os (filter (λ r. not (is_on opening r)) s.reads)
    (all_filter (waits_in s.openings) (waits_in os) (λ r. not (is_on opening r)) s.reads
    (λ r apart waits.
    let other : r.opening ≢ opening = grind (arith, nat_tests) in
    ap (λ (o : Inbox). must_wait o r.count) (inbox-left s.openings opening r.opening other) ∙ waits)
    (all_wait s h))

idle_without : (s : PortsState) (o : Option ℕ) → ArePortsIdle s → ArePortsIdle (without_opening s o)
idle_without s None h = h
idle_without s (Some opening) h = idle_leave s opening h

idle_fids : (s : PortsState) (fs : List (ℕ × Fid)) → ArePortsIdle s → ArePortsIdle (fold without_fid s fs)
idle_fids s [] h = h
idle_fids s (f ∷ fs) h = idle_fids (without_fid s f) fs (idle_without s (port_opening f.1) h)

pub idle_without_fids : (s : PortsState) (t : Tables) (conn : ℕ) → ArePortsIdle s
    → ArePortsIdle (ports_without_fids s t conn)
idle_without_fids s t conn h = idle_fids s (fids_of t conn) h

pub idle_freed : (s : PortsState) (t : Tables) (conn : ℕ) (e : Effect) → ArePortsIdle s
    → ArePortsIdle (ports_freed s t conn e)
idle_freed s t conn effect.Nothing h = h
idle_freed s t conn (effect.Begins msize) h = idle_without_fids s t conn h
idle_freed s t conn (effect.Puts fid value) h = h
idle_freed s t conn (effect.Frees fid) h = idle_without s (opening_in (fid_of t conn fid)) h

pub idle_cancelled : (s : PortsState) (conn : ℕ) (e : EventChange) → ArePortsIdle s
    → ArePortsIdle (ports_cancelled s conn e)
idle_cancelled s conn events.Nothing h = h
idle_cancelled s conn (events.Opens w) h = h
idle_cancelled s conn (events.Joins port) h = h
idle_cancelled s conn (events.Watches file) h = h
idle_cancelled s conn (events.Cancels tag) h =
    none_ready s.openings (filter (λ r. not (is_read conn tag r)) s.reads)
    (all_filter (waits_in s.openings) (waits_in s.openings) (λ r. not (is_read conn tag r)) s.reads
    (λ r apart waits. waits) (all_wait s h))

-- ---- waiting reads are answered, until none can be

serve_more : (n : ℕ) (s : PortsState) (o : Option Asker) → next_of s ≡ o → length s.reads ≤ suc n
    → (length (after_serve s).reads ≤ n → ArePortsIdle (after_serving_most n (after_serve s)))
    → ArePortsIdle (after_serving_most n (after_serve s))
serve_more n s None e h rest =
    let none : served_of s ≡ None = ap (λ (o : Option Asker). option_map {U = Asker × Piece} (λ r. (r, piece_for s r))
    o) e in
    subst ArePortsIdle (sym (ap (λ (t : PortsState). after_serving_most n t) (idle s none) ∙ after_none_more n s none))
    e
serve_more n s (Some r) e h rest = rest (omega (arith, next_less s r e, h))

serve_most : (n : ℕ) (s : PortsState) → length s.reads ≤ n → ArePortsIdle (after_serving_most n s)
unfolding after_serving_most
serve_most zero s h = no_reads (is_ready s.openings) s.reads h
serve_most (suc n) s h = serve_more n s (next_of s) refl h (λ l. serve_most n (after_serve s) l)

pub idle_served : (s : PortsState) → ArePortsIdle (ports_after_serving s)
idle_served s = serve_most (length s.reads) s (omega arith)

-- where none can be, nothing is said and all stays
served_none : (s : PortsState) → ArePortsIdle s → served_of s ≡ None
served_none s h = ap (λ (o : Option Asker). option_map {U = Asker × Piece} (λ r. (r, piece_for s r)) o) h

pub none_said : (s : PortsState) → ArePortsIdle s → ports_served s ≡ []
none_said s h = all_none s (served_none s h)

pub none_taken : (s : PortsState) → ArePortsIdle s → ports_after_serving s ≡ s
none_taken s h = after_all_none s (served_none s h)
