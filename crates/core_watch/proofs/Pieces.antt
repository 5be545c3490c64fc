-- What the piece of a read leaves to another read of the queue that has to wait.
use Rattle.std.proofs.Common.{◌≡◌, ◌≢◌, ℕ, ◌≤◌, ◌==◌, true, false, cond, List, [], ◌∷◌, length, None, nat_lt, refl, ap}
use Rattle.std.proofs.Common.{subst}
use Rattle.std.proofs.Common.{◌∙◌, arith}
use Rattle.std.proofs.lemmas.Bool.{eqb-true}
use Rattle.std.proofs.lemmas.Bool.Decides.{nat_tests}
use Rattle.wait_queue.specs.Carry.{carry_of}
use Rattle.wait_queue.specs.WaitState.{WaitState, must_wait, piece_from, piece_of, after_from, after_piece}
use Rattle.wait_queue.specs.declared.pending.Pending.{Pending}
use Rattle.wait_queue.specs.declared.types.Asker.{Asker}
use Rattle.wait_queue.proofs.LawLemmas.{leaves}
use Rattle.core_events.proofs.Idles.{parts, no_length}
use Rattle.core_events.proofs.Turns.{cut}

-- ---- at most as many bytes as a read asks for

from_small : (carry : List ℕ) (items : List Pending) (count : ℕ) → length (piece_from carry items count).bytes ≤ count
from_small (b ∷ bs) items count = cut count (b ∷ bs)
from_small [] (item ∷ items) count = cut count item.bytes
from_small [] [] count = omega arith

pub piece_small : (w : WaitState) (a : Asker) → length (piece_of w a).bytes ≤ a.count
piece_small w a =
    elim (a.count == 0) as (λ b. length (cond b (record { bytes = []; taken = None })
    (piece_from (carry_of w.openings a.opening) w.items a.count)).bytes ≤ a.count) [
      | true ↦ omega arith
      | false ↦ from_small (carry_of w.openings a.opening) w.items a.count
    ]

-- ---- what is left

no_items_from : (carry : List ℕ) (items : List Pending) (w : WaitState) (r : Asker) → items ≡ [] → w.items ≡ []
    → (after_from carry items w r).items ≡ []
no_items_from (b ∷ bs) items w r e i = i
no_items_from [] [] w r e i = i
no_items_from [] (x ∷ xs) w r e i = absurd cc

no_items : (w : WaitState) (r : Asker) → w.items ≡ [] → (after_piece w r).items ≡ []
no_items w r i =
    elim (r.count == 0) as (λ b. (cond b w (after_from (carry_of w.openings r.opening) w.items w r)).items ≡ [])
    [ true ↦ i | false ↦ no_items_from (carry_of w.openings r.opening) w.items w r i i ]

nothing_from : (carry : List ℕ) (items : List Pending) (w : WaitState) (r : Asker) → carry ≡ [] → items ≡ []
    → after_from carry items w r ≡ w
nothing_from (b ∷ bs) items w r c i = absurd cc
nothing_from [] [] w r c i = refl
nothing_from [] (x ∷ xs) w r c i = absurd cc

nothing_left : (w : WaitState) (r : Asker) → carry_of w.openings r.opening ≡ [] → w.items ≡ [] → after_piece w r ≡ w
nothing_left w r c i =
    elim (r.count == 0) as (λ b. cond b w (after_from (carry_of w.openings r.opening) w.items w r) ≡ w)
    [ true ↦ refl | false ↦ nothing_from (carry_of w.openings r.opening) w.items w r c i ]

no_carry : (w : WaitState) (r : Asker) (x : ℕ) → w.items ≡ [] → carry_of w.openings x ≡ []
    → carry_of (after_piece w r).openings x ≡ []
no_carry w r x i c =
    (elim (x == r.opening) as (λ b. (x == r.opening) ≡ b → carry_of (after_piece w r).openings x ≡ []) [
      | true ↦ λ e.
          let same : x ≡ r.opening = eqb-true x r.opening e in
          ap (λ (v : WaitState). carry_of v.openings x)
          (nothing_left w r (subst (λ (y : ℕ). carry_of w.openings y ≡ []) same c) i) ∙ c
      | false ↦ λ e. let other : x ≢ r.opening = grind (arith, nat_tests) in leaves w r x other ∙ c
    ]) refl

waits_with : (w : WaitState) (a : Asker) → (a.count == 0) ≡ false → w.items ≡ [] → carry_of w.openings a.opening ≡ []
    → must_wait w a ≡ true
waits_with w a n i c = rw (n, i, c) refl

-- it still has to wait
pub waits_piece : (w : WaitState) (r a : Asker) → must_wait w a ≡ true → must_wait (after_piece w r) a ≡ true
waits_piece w r a h =
    let p : ((a.count == 0) ≡ false) × (nat_lt 0 (length w.items) ≡ false)
    × (nat_lt 0 (length (carry_of w.openings a.opening)) ≡ false) =
    parts (a.count == 0) (nat_lt 0 (length w.items)) (nat_lt 0 (length (carry_of w.openings a.opening))) h
    in
    let i : w.items ≡ [] = no_length w.items p.1 in
    let c : carry_of w.openings a.opening ≡ [] = no_length (carry_of w.openings a.opening) p.2 in
    waits_with (after_piece w r) a p.0 (no_items w r i) (no_carry w r a.opening i c)
