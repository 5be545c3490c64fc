-- What each call of the event files leaves of their waiting reads.
use Rattle.std.proofs.Common.{◌≡◌, ◌≢◌, ℕ, zero, suc, ◌≤◌, Bool, true, false, not, cond, List, [], ◌∷◌, ◌++◌, length}
use Rattle.std.proofs.Common.{fold, nat_eq, nat_lt, slice_index_or, Option, Some, None, All, refl, sym, ap, ◌∙◌, arith}
use Rattle.std.specs.List.{list_all}
use Rattle.std.specs.Map.{lookup}
use Rattle.std.proofs.lemmas.Bool.{eqb-false, not-true, and_parts, both_ways}
use Rattle.std.proofs.lemmas.List.Elements.{All-nil, All-cons, All-head, All-tail, All-push, All-filter, All-weaker}
use Rattle.std.proofs.lemmas.List.Elements.{filter_passes}
use Rattle.fid_table.specs.declared.types.Fid.{Fid}
use Rattle.core_scene.specs.declared.deed.WindowItem.{WindowItem}
use Rattle.wait_queue.specs.Reads.{is_on, is_read, without_first}
use Rattle.wait_queue.specs.declared.types.Asker.{Asker}
use Rattle.event_book.specs.BookState.{BookState, is_open_window, is_living, is_ready, next_of, after_next, after_add}
use Rattle.event_book.specs.BookState.{after_put, read_waits, after_answer, after_ask, after_serve, is_taken_of}
use Rattle.event_book.specs.BookState.{after_written, after_leave, after_delete, is_on_window}
use Rattle.event_book.specs.Laws.{IsLawful}
use Rattle.event_book.proofs.LawfulLemmas.{lawful-add, lawful-put_in, lawful-waits, lawful-answer, lawful-serve}
use Rattle.event_book.proofs.LawfulLemmas.{lawful-written_back, lawful-cancel, lawful-leave, lawful-delete}
use Rattle.core_fids.specs.declared.effect.EventChange.{EventChange}
use Rattle.core_fids.specs.declared.effect.EventChange.TheVariants as events
use Rattle.core_fids.specs.Fids.{event_opening}
use Rattle.core_events.specs.Asking.{opened}
use Rattle.core_events.specs.declared.closing.BackItem.{BackItem}
use Rattle.core_events.specs.Closing.{written_back, without_opening, without_fid, cancelled, closed_with}
use Rattle.core_events.specs.Putting.{put_one, put_all, is_ending, put_if_lives, put_living}
use Rattle.core_events.specs.Serving.{book_served_most, book_served_all}

-- a lawful book up to an entry, each of whose waiting reads is such a one
pub record IsBook (P : Asker → Type 0) (at : ℕ) (s : BookState) : Type 0 where
  pub lawful : IsLawful s
  pub latest : s.latest ≤ at
  pub reads : All P s.reads

pub book_weaker : (P Q : Asker → Type 0) (at : ℕ) (s : BookState) → ((r : Asker) → P r → Q r) → IsBook P at s
    → IsBook Q at s
book_weaker P Q at s h b = record { lawful = b.lawful; latest = b.latest; reads = All-weaker P Q h s.reads b.reads }

pub book_later : (P : Asker → Type 0) (at next : ℕ) (s : BookState) → at ≤ next → IsBook P at s → IsBook P next s
book_later P at next s h b = record { lawful = b.lawful; latest = omega (arith, h, b.latest); reads = b.reads }

module _ (P : Asker → Type 0) (at : ℕ) where
  pub all_without_first : (t : Asker → Bool) (rs : List Asker) → All P rs → All P (without_first t rs)
  all_without_first t [] a = a
  all_without_first t (r ∷ rs) a =
      elim (t r) as (λ b. All P (cond b rs (r ∷ without_first t rs))) [
        | true ↦ All-tail P r rs a
        | false ↦ All-cons P r (without_first t rs) (All-head P r rs a) (all_without_first t rs (All-tail P r rs a))
      ]

  -- ---- what grows

  book_add : (s : BookState) (w : ℕ) → IsBook P at s → IsBook P at (after_add s w)
  book_add s w b = record { lawful = lawful-add s w b.lawful; latest = b.latest; reads = b.reads }

  pub book_opened : (s : BookState) (e : EventChange) → IsBook P at s → IsBook P at (opened s e)
  book_opened s events.Nothing b = b
  book_opened s (events.Opens w) b =
      elim (nat_lt (length s.owners) 4294967295) as (λ t. IsBook P at (cond t (after_add s w) s)) [
        | true ↦ book_add s w b
        | false ↦ b
      ]
  book_opened s (events.Watches file) b = b
  book_opened s (events.Cancels tag) b = b
  book_opened s (events.Joins port) b = b

  book_put : (s : BookState) (i : WindowItem) → IsBook P at s → IsBook P at (put_one s i)
  book_put s i b =
      elim (is_open_window s i.window) as (λ t. is_open_window s i.window ≡ t → IsBook P at
      (cond t (after_put s i.window i.item) s)) [
        | true ↦ λ e. record { lawful = lawful-put_in s i.window i.item e b.lawful; latest = b.latest; reads = b.reads }
        | false ↦ λ e. b
      ] refl

  pub book_put_all : (s : BookState) (items : List WindowItem) → IsBook P at s → IsBook P at (put_all s items)
  book_put_all s [] b = b
  book_put_all s (i ∷ items) b = book_put_all (put_one s i) items (book_put s i b)

  pub book_put_living : (deleted : List ℕ) (s : BookState) (items : List WindowItem) → IsBook P at s
      → IsBook P at (put_living deleted s items)
  book_put_living deleted s [] b = b
  book_put_living deleted s (i ∷ items) b =
      book_put_living deleted (put_if_lives deleted s i) items
      (elim (is_ending deleted i) as (λ t. IsBook P at (cond t s (put_one s i))) [
        | true ↦ b
        | false ↦ book_put s i b
      ])

  pub book_ask : (s : BookState) (r : Asker) → is_living s r.opening ≡ true → P r → IsBook P at s
      → IsBook P at (after_ask s r at)
  book_ask s r living own b =
      elim (read_waits s r) as (λ t. IsBook P at (cond t (record s { reads = s.reads ++ r ∷ []; latest = at })
      (after_answer s r at))) [
        | true ↦ record {
          lawful = lawful-waits s r at b.latest living b.lawful;
          latest = omega arith;
          reads =
              All-push P s.reads r b.reads own;
        }
        | false ↦ record {
          lawful = lawful-answer s r at b.latest living b.lawful;
          latest = omega arith;
          reads =
              b.reads;
        }
      ]

  reads_next : (o : Option Asker) (s : BookState) → All P s.reads → All P (after_next o s at).reads
  reads_next None s h = h
  reads_next (Some r) s h = all_without_first (is_ready s.files s.owners) s.reads h

  latest_next : (o : Option Asker) (s : BookState) → s.latest ≤ at → (after_next o s at).latest ≤ at
  latest_next None s h = h
  latest_next (Some r) s h = omega arith

  pub book_serve : (s : BookState) → IsBook P at s → IsBook P at (after_serve s at)
  book_serve s b = record {
    lawful = lawful-serve s at b.latest b.lawful;
    latest = latest_next (next_of s) s b.latest;
    reads = reads_next (next_of s) s b.reads;
  }

  book_serve_most : (n : ℕ) (s : BookState) → IsBook P at s → IsBook P at (book_served_most n at s)
  unfolding book_served_most
  book_serve_most zero s b = b
  book_serve_most (suc n) s b = book_serve_most n (after_serve s at) (book_serve s b)

  pub book_serve_all : (s : BookState) → IsBook P at s → IsBook P at (book_served_all at s)
  book_serve_all s b = book_serve_most (length s.reads) s b

  -- ---- what is written back

  pub book_written : (s : BookState) (o : Option BackItem) → IsBook P at s → IsBook P at (written_back at s o)
  book_written s None b = b
  book_written s (Some i) b =
      elim (is_taken_of s i.window i.number) as (λ t. IsBook P at (cond t (after_written s i.window i.number at) s)) [
        | true ↦ record {
          lawful = lawful-written_back s i.window i.number at b.latest b.lawful;
          latest = omega arith;
          reads = b.reads;
        }
        | false ↦ b
      ]

  -- ---- what ends

  book_leave : (s : BookState) (o : ℕ) → IsBook P at s → IsBook P at (after_leave s o at)
  book_leave s o b = record {
    lawful = lawful-leave s o at b.latest b.lawful;
    latest = omega arith;
    reads = All-filter (λ r. not (is_on o r)) P s.reads b.reads;
  }

  pub book_without : (s : BookState) (o : Option ℕ) → IsBook P at s → IsBook P at (without_opening at s o)
  book_without s None b = b
  book_without s (Some o) b =
      elim (is_living s o) as (λ t. IsBook P at (cond t (after_leave s o at) s)) [
        | true ↦ book_leave s o b
        | false ↦ b
      ]

  pub book_without_fids : (s : BookState) (fs : List (ℕ × Fid)) → IsBook P at s
      → IsBook P at (fold (without_fid at) s fs)
  book_without_fids s [] b = b
  book_without_fids s (f ∷ fs) b = book_without_fids (without_fid at s f) fs (book_without s (event_opening f.1) b)

  pub book_cancelled : (s : BookState) (conn : ℕ) (e : EventChange) → IsBook P at s → IsBook P at (cancelled s conn e)
  book_cancelled s conn events.Nothing b = b
  book_cancelled s conn (events.Opens w) b = b
  book_cancelled s conn (events.Joins port) b = b
  book_cancelled s conn (events.Watches file) b = b
  book_cancelled s conn (events.Cancels tag) b = record {
    lawful = lawful-cancel s conn tag b.lawful;
    latest = b.latest;
    reads = All-filter (λ r. not (is_read conn tag r)) P s.reads b.reads;
  }

  book_deleted : (s : BookState) (w : ℕ) → IsBook P at s → IsBook P at (after_delete s w at)
  book_deleted s w b = record {
    lawful = lawful-delete s w at b.latest b.lawful;
    latest = omega arith;
    reads = All-filter (λ r. not (is_on_window s.owners w r)) P s.reads b.reads;
  }

  pub book_closed : (s : BookState) (ws : List ℕ) → IsBook P at s → IsBook P at (closed_with at s ws)
  book_closed s [] b = b
  book_closed s (w ∷ ws) b = book_closed (after_delete s w at) ws (book_deleted s w b)

-- ---- an opening that is left has no reads

left_none : (s : BookState) (o at : ℕ) → All (λ r. r.opening ≢ o) (after_leave s o at).reads
left_none s o at =
    All-weaker (λ r. not (is_on o r) ≡ true) (λ r. r.opening ≢ o) (λ r h. eqb-false r.opening o
    (not-true (is_on o r) h)) (after_leave s o at).reads
    (filter_passes (λ r. not (is_on o r)) s.reads)

none_on : (p : ℕ → Bool) (o : ℕ) (rs : List Asker) → p o ≡ false → list_all (λ r. p r.opening) rs ≡ true →
    All (λ r. r.opening ≢ o) rs
none_on p o [] dead all = All-nil (λ r. r.opening ≢ o)
none_on p o (r ∷ rs) dead all =
    let parts = and_parts (p r.opening) (list_all (λ r. p r.opening) rs) all in
    All-cons (λ r. r.opening ≢ o) r rs (λ (e : r.opening ≡ o). both_ways (p o) dead (ap p (sym e) ∙ parts.0))
    (none_on p o rs dead parts.1)

opening_none : (at : ℕ) (s : BookState) (o : ℕ) → IsLawful s → All (λ r. r.opening ≢ o)
    (without_opening at s (Some o)).reads
opening_none at s o lawful =
    elim (is_living s o) as (λ t. is_living s o ≡ t → All (λ r. r.opening ≢ o) (cond t (after_leave s o at) s).reads) [
      | true ↦ λ e. left_none s o at
      | false ↦ λ e. none_on (is_living s) o s.reads e lawful.living
    ] refl

pub without_none : (at : ℕ) (s : BookState) (o : Option ℕ) → IsLawful s
    → All (λ r. o ≡ Some r.opening → ⊥) (without_opening at s o).reads
without_none at s None lawful = λ k d h e. absurd cc
without_none at s (Some o) lawful =
    All-weaker (λ r. r.opening ≢ o) (λ r. Some o ≡ Some r.opening → ⊥)
    (λ r h e. let same : r.opening ≡ o = cc in h same) (without_opening at s (Some o)).reads
    (opening_none at s o lawful)

-- no read is on an opening of these fids
abbrev pub IsApart : List (ℕ × Fid) → Asker → Type 0
IsApart fs r = (number : ℕ) (f : Fid) → lookup (nat_eq number) fs ≡ Some f → event_opening f ≡ Some r.opening → ⊥

apart_more : (f : ℕ × Fid) (fs : List (ℕ × Fid)) (r : Asker) → (event_opening f.1 ≡ Some r.opening → ⊥) → IsApart fs r
    → IsApart (f ∷ fs) r
apart_more f fs r none rest number g e opens =
    elim (nat_eq number f.0) as (λ b. cond b (Some f.1) (lookup (nat_eq number) fs) ≡ Some g → ⊥) [
      | true ↦ λ h. let same : f.1 ≡ g = cc in none (ap event_opening same ∙ opens)
      | false ↦ λ h. rest number g h opens
    ] e

apart_none : (r : Asker) → IsApart [] r
apart_none r number f e opens = absurd cc

pub fids_none : (P : Asker → Type 0) (at : ℕ) (s : BookState) (fs : List (ℕ × Fid)) → IsBook P at s
    → All (IsApart fs) (fold (without_fid at) s fs).reads
fids_none P at s [] b = λ k d h. apart_none (slice_index_or s.reads k d)
fids_none P at s (f ∷ fs) b =
    let kept : IsBook P at (without_fid at s f) = book_without P at s (event_opening f.1) b in
    let next : IsBook (λ r. event_opening f.1 ≡ Some r.opening → ⊥) at (without_fid at s f) =
    record { lawful = kept.lawful; latest = kept.latest; reads = without_none at s (event_opening f.1) b.lawful }
    in
    let end : BookState = fold (without_fid at) s (f ∷ fs) in
    let first : IsBook (λ r. event_opening f.1 ≡ Some r.opening → ⊥) at end =
    book_without_fids (λ r. event_opening f.1 ≡ Some r.opening → ⊥) at (without_fid at s f) fs next
    in
    let later : All (IsApart fs) end.reads = fids_none (λ r. event_opening f.1 ≡ Some r.opening → ⊥) at
    (without_fid at s f) fs next in
    λ k d h. apart_more f fs (slice_index_or end.reads k d) (first.reads k d h) (later k d h)
