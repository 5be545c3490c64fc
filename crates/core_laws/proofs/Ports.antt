-- What each call of the ports leaves of their waiting reads, and to whom what they serve is said.
use Rattle.std.proofs.Common.{◌≡◌, ◌≢◌, ℕ, zero, suc, true, false, not, cond, List, [], ◌∷◌, ◌++◌, length, map, fold}
use Rattle.std.proofs.Common.{nat_eq, slice_index_or, Option, Some, None, All, refl, ap, ◌∙◌}
use Rattle.std.specs.Map.{lookup}
use Rattle.std.proofs.lemmas.Bool.{eqb-false, not-true}
use Rattle.std.proofs.lemmas.List.Elements.{All-nil, All-cons, All-push, All-filter, All-weaker, All-contains}
use Rattle.std.proofs.lemmas.List.Elements.{filter_passes}
use Rattle.ninep_types.specs.declared.message.RBody.{RBody}
use Rattle.ninep_types.specs.declared.message.RBody.TheVariants as r
use Rattle.fid_table.specs.declared.types.Fid.{Fid}
use Rattle.fid_table.specs.Tables.{Tables, fid_of, fids_of}
use Rattle.wait_queue.specs.Reads.{is_on, is_read}
use Rattle.wait_queue.specs.declared.types.Asker.{Asker}
use Rattle.wait_queue.specs.declared.types.Piece.{Piece}
use Rattle.plumb_ports.specs.PortList.{number_of, kept_of, with_kept}
use Rattle.plumb_ports.specs.Inboxes.{delivered}
use Rattle.plumb_ports.specs.PortsState.{PortsState, is_open, is_ready, read_waits, next_of, served_of, delivered_at}
use Rattle.plumb_ports.specs.PortsState.{delivered_on, after_ask, after_answer, after_join, after_next, after_serve}
use Rattle.plumb_ports.proofs.WaitingLemmas.{served_waited}
use Rattle.core_scene.specs.declared.deed.Deed.{Deed}
use Rattle.core_scene.specs.declared.deed.Deed.TheVariants as deed
use Rattle.core_scene.specs.declared.deed.Entry.{Entry}
use Rattle.core_scene.specs.Scenes.{SceneState, done, done_all}
use Rattle.core_fids.specs.Fids.{port_opening}
use Rattle.core_fids.specs.declared.effect.Effect.{Effect}
use Rattle.core_fids.specs.declared.effect.Effect.TheVariants as effect
use Rattle.core_fids.specs.declared.effect.EventChange.{EventChange}
use Rattle.core_fids.specs.declared.effect.EventChange.TheVariants as events
use Rattle.core_fids.specs.declared.refusal.Refusal.{Refusal}
use Rattle.core_events.specs.declared.response.Response.{Response}
use Rattle.core_events.specs.PortAsking.{next_opening, can_join, joined_with, read_refusal, read_unless, ports_read}
use Rattle.core_events.specs.PortClosing.{without_opening, without_fid, ports_without_fids, opening_in, ports_freed}
use Rattle.core_events.specs.PortClosing.{ports_cancelled}
use Rattle.core_events.specs.PortServing.{then_served, served_most, after_serving_most, ports_served}
use Rattle.core_events.specs.PortServing.{ports_after_serving}
use Rattle.core_steps.specs.PortReads.{port_response}
use Rattle.core_laws.proofs.Books.{all_without_first}

-- ---- what is said to reads that waited

module _ (Tells : Response → Type 0) (Reading : Asker → Type 0) (own : (r : Asker) (body : RBody) → Reading r
    → Tells (port_response r body)) where
  then_said : (o : Option (Asker × Piece)) (rest : List Response) →
      ((x : Asker) (piece : Piece) → o ≡ Some (x, piece) → Reading x) → All Tells rest → All Tells (then_served o rest)
  then_said None rest waits h = All-nil Tells
  then_said (Some x) rest waits h = All-cons Tells _ rest (own x.0 (r.Read x.1.bytes) (waits x.0 x.1 refl)) h

  next_reading : (o : Option Asker) (s : PortsState) → All Reading s.reads → All Reading (after_next o s).reads
  next_reading None s h = h
  next_reading (Some x) s h = all_without_first Reading 0 (is_ready s.openings) s.reads h

  most_said : (n : ℕ) (s : PortsState) → All Reading s.reads → All Tells (served_most n s)
  unfolding served_most
  most_said zero s h = All-nil Tells
  most_said (suc n) s h =
      then_said (served_of s) (served_most n (after_serve s)) (λ x piece e. All-contains Reading s.reads x h
      (served_waited s x piece e))
      (most_said n (after_serve s) (next_reading (next_of s) s h))

  pub served_said : (s : PortsState) → All Reading s.reads → All Tells (ports_served s)
  served_said s h = most_said (length s.reads) s h

-- ---- the reads that are left

module _ (P : Asker → Type 0) where
  next_reads : (o : Option Asker) (s : PortsState) → All P s.reads → All P (after_next o s).reads
  next_reads None s h = h
  next_reads (Some x) s h = all_without_first P 0 (is_ready s.openings) s.reads h

  most_reads : (n : ℕ) (s : PortsState) → All P s.reads → All P (after_serving_most n s).reads
  unfolding after_serving_most
  most_reads zero s h = h
  most_reads (suc n) s h = most_reads n (after_serve s) (next_reads (next_of s) s h)

  pub served_reads : (s : PortsState) → All P s.reads → All P (ports_after_serving s).reads
  served_reads s h = most_reads (length s.reads) s h

  pub joined_reads : (s : PortsState) (e : EventChange) → All P s.reads → All P (joined_with s e).reads
  joined_reads s events.Nothing h = h
  joined_reads s (events.Opens w) h = h
  joined_reads s (events.Joins port) h =
      elim (can_join s port) as (λ b. All P (cond b (after_join s port (next_opening s)) s).reads) [
        | true ↦ h
        | false ↦ h
      ]
  joined_reads s (events.Watches file) h = h
  joined_reads s (events.Cancels tag) h = h

  ask_reads : (s : PortsState) (x : Asker) → P x → All P s.reads → All P (after_ask s x).reads
  ask_reads s x own h =
      elim (read_waits s x) as (λ b. All P (cond b (record s { reads = s.reads ++ x ∷ [] }) (after_answer s x)).reads) [
        | true ↦ All-push P s.reads x h own
        | false ↦ h
      ]

  unless_reads : (o : Option Refusal) (s : PortsState) (x : Asker) → P x → All P s.reads
      → All P (read_unless o s x).reads
  unless_reads None s x own h = ask_reads s x own h
  unless_reads (Some refusal) s x own h = h

  pub read_reads : (t : Tables) (s : PortsState) (x : Asker) → P x → All P s.reads → All P (ports_read t s x).reads
  read_reads t s x own h = unless_reads (read_refusal t s x) s x own h

  -- ---- deeds

  at_reads : (s : PortsState) (port : ℕ) (message : List ℕ) → All P s.reads → All P (delivered_at s port message).reads
  at_reads s port message h =
      elim (is_open s port) as (λ b. All P (cond b (record s { openings = map (delivered port message) s.openings })
      (record s { ports = with_kept s.ports port (kept_of s.ports port ++ message ∷ []) })).reads) [
        | true ↦ h
        | false ↦ h
      ]

  on_reads : (o : Option ℕ) (s : PortsState) (message : List ℕ) → All P s.reads → All P (delivered_on o s message).reads
  on_reads None s message h = h
  on_reads (Some port) s message h = at_reads s port message h

  deed_reads : (e : Entry) (s : SceneState) (d : Deed) → All P s.ports.reads → All P (done e s d).ports.reads
  deed_reads e s (deed.Windows c) h = h
  deed_reads e s (deed.Item w item) h = h
  deed_reads e s (deed.Snarfs text) h = h
  deed_reads e s (deed.Stores path bytes) h = h
  deed_reads e s (deed.MakesDir path) h = h
  deed_reads e s (deed.Requests job) h = h
  deed_reads e s (deed.Notes w op) h = h
  deed_reads e s (deed.AddsRules sets vars text) h = h
  deed_reads e s deed.ClearsRules h = h
  deed_reads e s (deed.AddsPort name) h = h
  deed_reads e s (deed.Delivers name message keep) h = on_reads (number_of s.ports.ports name) s.ports message h

  pub acted_reads : (e : Entry) (s : SceneState) (ds : List Deed) → All P s.ports.reads
      → All P (done_all e s ds).ports.reads
  acted_reads e s [] h = h
  acted_reads e s (d ∷ ds) h = acted_reads e (done e s d) ds (deed_reads e s d h)

  -- ---- what ends

  pub leave_reads : (s : PortsState) (o : Option ℕ) → All P s.reads → All P (without_opening s o).reads
  leave_reads s None h = h
  leave_reads s (Some o) h = All-filter (λ x. not (is_on o x)) P s.reads h

  fids_reads : (fs : List (ℕ × Fid)) (s : PortsState) → All P s.reads → All P (fold without_fid s fs).reads
  fids_reads [] s h = h
  fids_reads (f ∷ fs) s h = fids_reads fs (without_fid s f) (leave_reads s (port_opening f.1) h)

  pub without_fids_reads : (s : PortsState) (t : Tables) (conn : ℕ) → All P s.reads
      → All P (ports_without_fids s t conn).reads
  without_fids_reads s t conn h = fids_reads (fids_of t conn) s h

  pub freed_reads : (s : PortsState) (t : Tables) (conn : ℕ) (e : Effect) → All P s.reads
      → All P (ports_freed s t conn e).reads
  freed_reads s t conn effect.Nothing h = h
  freed_reads s t conn (effect.Begins msize) h = without_fids_reads s t conn h
  freed_reads s t conn (effect.Puts fid value) h = h
  freed_reads s t conn (effect.Frees fid) h = leave_reads s (opening_in (fid_of t conn fid)) h

  pub cancelled_reads : (s : PortsState) (conn : ℕ) (e : EventChange) → All P s.reads
      → All P (ports_cancelled s conn e).reads
  cancelled_reads s conn events.Nothing h = h
  cancelled_reads s conn (events.Opens w) h = h
  cancelled_reads s conn (events.Joins port) h = h
  cancelled_reads s conn (events.Watches file) h = h
  cancelled_reads s conn (events.Cancels tag) h = All-filter (λ x. not (is_read conn tag x)) P s.reads h

-- ---- an opening that is left has no reads

some_is : (o : ℕ) (x : Asker) → x.opening ≢ o → Some o ≡ Some x.opening → ⊥
some_is o x apart e = let same : x.opening ≡ o = cc in apart same

pub left_none : (s : PortsState) (o : Option ℕ) → All (λ x. o ≡ Some x.opening → ⊥) (without_opening s o).reads
left_none s None = λ k d h e. absurd cc
left_none s (Some o) =
    All-weaker (λ x. not (is_on o x) ≡ true) (λ x. Some o ≡ Some x.opening → ⊥)
    (λ x h. some_is o x (eqb-false x.opening o (not-true (is_on o x) h))) (without_opening s (Some o)).reads
    (filter_passes (λ x. not (is_on o x)) s.reads)

-- no read is on an opening of a port of these fids
abbrev pub IsApart : List (ℕ × Fid) → Asker → Type 0
IsApart fs x = (number : ℕ) (f : Fid) → lookup (nat_eq number) fs ≡ Some f → port_opening f ≡ Some x.opening → ⊥

apart_more : (f : ℕ × Fid) (fs : List (ℕ × Fid)) (x : Asker) → (port_opening f.1 ≡ Some x.opening → ⊥) → IsApart fs x
    → IsApart (f ∷ fs) x
apart_more f fs x none rest number g e opens =
    elim (nat_eq number f.0) as (λ b. cond b (Some f.1) (lookup (nat_eq number) fs) ≡ Some g → ⊥) [
      | true ↦ λ h. let same : f.1 ≡ g = cc in none (ap port_opening same ∙ opens)
      | false ↦ λ h. rest number g h opens
    ] e

apart_none : (x : Asker) → IsApart [] x
apart_none x number f e opens = absurd cc

fids_none : (fs : List (ℕ × Fid)) (s : PortsState) → All (IsApart fs) (fold without_fid s fs).reads
fids_none [] s = λ k d h. apart_none (slice_index_or s.reads k d)
fids_none (f ∷ fs) s =
    let next : PortsState = without_fid s f in
    let end : PortsState = fold without_fid next fs in
    let first : All (λ x. port_opening f.1 ≡ Some x.opening → ⊥) end.reads =
    fids_reads (λ x. port_opening f.1 ≡ Some x.opening → ⊥) fs next (left_none s (port_opening f.1)) in
    let later : All (IsApart fs) end.reads = fids_none fs next in
    λ k d h. apart_more f fs (slice_index_or end.reads k d) (first k d h) (later k d h)

pub without_fids_none : (s : PortsState) (t : Tables) (conn : ℕ) → All (IsApart (fids_of t conn))
    (ports_without_fids s t conn).reads
without_fids_none s t conn = fids_none (fids_of t conn) s
