-- Which reads wait after each call.
use Rattle.std.proofs.Common.{◌≡◌, ◌==◌, ◌⊎◌, inl, inr, ℕ, Bool, true, false, cond, not, List, [], ◌∷◌, ◌++◌, filter}
use Rattle.std.proofs.Common.{find, Option, Some, None, refl, sym, ap, subst, arith}
use Rattle.std.specs.Prelude.{option_map}
use Rattle.std.specs.List.{Contains, list_any}
use Rattle.std.proofs.lemmas.List.Elements.{Contains-append_right, Contains-append_cases, Contains-push_cases}
use Rattle.wait_queue.specs.Carry.{carry_of}
use Rattle.wait_queue.specs.Reads.{is_read, is_on, can_answer, without_first, without_read}
use Rattle.wait_queue.specs.WaitState.{WaitState, any_item, must_wait, piece_of, after_from, after_piece, after_ask}
use Rattle.wait_queue.specs.WaitState.{next_of, without_next, after_answer}
use Rattle.wait_queue.specs.Laws.{CancelledIsGone, AddsNone, AddsOnly, OnlyAskWaits, ServedWaited}
use Rattle.wait_queue.specs.declared.pending.Pending.{Pending}
use Rattle.wait_queue.specs.declared.types.Asker.{Asker}
use Rattle.wait_queue.specs.declared.types.Piece.{Piece}

-- ---- lists of reads

nothing_there : (r : Asker) → Contains [] r → ⊥
nothing_there r h = let below = h.1 in absurd (omega (arith, below))

first_or_later : (x : Asker) (xs : List Asker) (r : Asker) → Contains (x ∷ xs) r → (x ≡ r) ⊎ Contains xs r
first_or_later x xs r h =
    elim (Contains-append_cases (x ∷ []) xs r h) [
      | inl one ↦ elim (Contains-push_cases [] x r one) [
        | inl none ↦ absurd (nothing_there r none)
        | inr same ↦ inl same
      ]
      | inr later ↦ inr later
    ]

first : (x : Asker) (xs : List Asker) (r : Asker) → x ≡ r → Contains (x ∷ xs) r
first x xs r e = (0, omega arith, e)

later : (x : Asker) (xs : List Asker) (r : Asker) → Contains xs r → Contains (x ∷ xs) r
later x xs r h = Contains-append_right (x ∷ []) xs r h

-- one more read at the front
adds-cons : (x : Asker) (xs ys : List Asker) → AddsNone xs ys → AddsNone (x ∷ xs) (x ∷ ys)
adds-cons x xs ys h r c =
    elim (first_or_later x ys r c) [ inl same ↦ first x xs r same | inr rest ↦ later x xs r (h r rest) ]

adds-drop : (x : Asker) (xs ys : List Asker) → AddsNone xs ys → AddsNone (x ∷ xs) ys
adds-drop x xs ys h r c = later x xs r (h r c)

pub filter-adds : (p : Asker → Bool) (rs : List Asker) → AddsNone rs (filter p rs)
filter-adds p [] = λ r c. c
filter-adds p (x ∷ xs) =
    elim (p x) as (λ b. AddsNone (x ∷ xs) (cond b (x ∷ filter p xs) (filter p xs))) [
      | true ↦ adds-cons x xs (filter p xs) (filter-adds p xs)
      | false ↦ adds-drop x xs (filter p xs) (filter-adds p xs)
    ]

pub without_first-adds : (p : Asker → Bool) (rs : List Asker) → AddsNone rs (without_first p rs)
without_first-adds p [] = λ r c. c
without_first-adds p (x ∷ xs) =
    elim (p x) as (λ b. AddsNone (x ∷ xs) (cond b xs (x ∷ without_first p xs))) [
      | true ↦ adds-drop x xs xs (λ r c. c)
      | false ↦ adds-cons x xs (without_first p xs) (without_first-adds p xs)
    ]

pub found-there : (p : Asker → Bool) (rs : List Asker) (r : Asker) → find p rs ≡ Some r → Contains rs r
found-there p [] r h = cc
found-there p (x ∷ xs) r h =
    (elim (p x) as (λ b. cond b (Some x) (find p xs) ≡ Some r → Contains (x ∷ xs) r) [
      | true ↦ λ k. let same : x ≡ r = cc in first x xs r same
      | false ↦ λ k. later x xs r (found-there p xs r k)
    ]) h

pub none_left : (rs : List Asker) (conn tag : ℕ) → list_any (is_read conn tag) (without_read rs conn tag) ≡ false
none_left [] conn tag = refl
none_left (x ∷ xs) conn tag =
    (elim (is_read conn tag x) as (λ b. is_read conn tag x ≡ b → list_any (is_read conn tag)
    (cond (not b) (x ∷ without_read xs conn tag) (without_read xs conn tag)) ≡ false) [
      | true ↦ λ e. none_left xs conn tag
      | false ↦ λ e. rw e (none_left xs conn tag)
    ]) refl

-- ---- the calls

pub cancelled_gone : CancelledIsGone
cancelled_gone w conn tag = none_left w.reads conn tag

from-reads : (carry : List ℕ) (items : List Pending) (w : WaitState) (r : Asker)
    → (after_from carry items w r).reads ≡ w.reads
from-reads (b ∷ bs) items w r = refl
from-reads [] (item ∷ items) w r = refl
from-reads [] [] w r = refl

piece-reads : (w : WaitState) (r : Asker) → (after_piece w r).reads ≡ w.reads
piece-reads w r =
    elim (r.count == 0) as (λ b. (cond b w (after_from (carry_of w.openings r.opening) w.items w r)).reads ≡ w.reads)
    [ true ↦ refl | false ↦ from-reads (carry_of w.openings r.opening) w.items w r ]

piece-adds : (w : WaitState) (r : Asker) (rs : List Asker) → AddsNone rs w.reads → AddsNone rs (after_piece w r).reads
piece-adds w r rs h = subst (AddsNone rs) (sym (piece-reads w r)) h

ask-adds : (w : WaitState) (r : Asker) → AddsOnly r w.reads (after_ask w r).reads
ask-adds w r =
    elim (must_wait w r) as (λ b. AddsOnly r w.reads (cond b (record w { reads = w.reads ++ r ∷ [] })
    (after_piece w r)).reads) [
      | true ↦ λ x c. Contains-push_cases w.reads r x c
      | false ↦ λ x c. inl (piece-adds w r w.reads (λ x c. c) x c)
    ]

serve-adds : (next : Option Asker) (w : WaitState) → AddsNone w.reads (after_answer next w).reads
serve-adds None w = λ x c. c
serve-adds (Some r) w = piece-adds (without_next w) r w.reads (without_first-adds (can_answer (any_item w) w.openings)
    w.reads)

pub only_ask_adds : OnlyAskWaits
only_ask_adds w = record {
  ask = λ r. ask-adds w r;
  enlist = λ opening x c. c;
  put = λ number bytes x c. c;
  serve = serve-adds (next_of w) w;
  cancel = λ conn tag. filter-adds (λ r. not (is_read conn tag r)) w.reads;
  leave = λ opening. filter-adds (λ r. not (is_on opening r)) w.reads;
  close = λ x c. absurd (nothing_there x c);
}

served_is : (next : Option Asker) (piece : Asker → Piece) (r : Asker) (p : Piece)
    → option_map {U = Asker × Piece} (λ r. (r, piece r)) next ≡ Some (r, p) → next ≡ Some r
served_is None piece r p h = cc
served_is (Some x) piece r p h = let same : ◌≡◌ {A = Asker × Piece} (x, piece x) (r, p) = cc in
    ap (λ (t : Asker × Piece). Some t.0) same

pub served_waited : ServedWaited
served_waited w r piece h =
    found-there (can_answer (any_item w) w.openings) w.reads r (served_is (next_of w) (piece_of w) r piece h)
