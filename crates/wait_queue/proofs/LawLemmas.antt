-- A carry after it was set.
use Rattle.std.proofs.Common.{◌≡◌, ◌≢◌, ℕ, ◌==◌, ◌||◌, Bool, true, false, cond, List, [], ◌∷◌, ◌++◌, drop, find, not}
use Rattle.std.proofs.Common.{Some, refl, sym, ap, ◌∙◌, arith, None}
use Rattle.std.specs.List.{list_any}
use Rattle.std.proofs.lemmas.List.{append-nil, take-append-drop}
use Rattle.std.proofs.lemmas.Bool.Decides.{nat_tests}
use Rattle.wait_queue.specs.Carry.{OpenCarry, carry_of, set_carry, is_of}
use Rattle.wait_queue.specs.WaitState.{WaitState, IsEnlisted, piece_of, after_piece, piece_from, after_from, next_of}
use Rattle.wait_queue.specs.WaitState.{after_cancel, any_item}
use Rattle.wait_queue.specs.Laws.{taken_by, taken_from}
use Rattle.wait_queue.specs.Reads.{is_read, can_answer, without_read}
use Rattle.wait_queue.specs.declared.pending.Pending.{Pending}
use Rattle.wait_queue.specs.declared.types.Asker.{Asker}

is_of_itself : (opening : ℕ) (b : List ℕ) → is_of opening (record { opening = opening; carry = b }) ≡ true
is_of_itself opening b = grind (arith, nat_tests)

pub carry-set : (cs : List OpenCarry) (opening : ℕ) (b : List ℕ) → list_any (is_of opening) cs ≡ true →
    carry_of (set_carry cs opening b) opening ≡ b
carry-set [] opening b h = cc
carry-set (c ∷ cs) opening b h =
    (elim (is_of opening c) as (λ t. is_of opening c ≡ t → (t || list_any (is_of opening) cs) ≡ true →
    carry_of (cond t (record { opening = opening; carry = b } ∷ cs) (c ∷ set_carry cs opening b)) opening ≡ b) [
      | true ↦ λ e a. ap (λ t. cond t b (carry_of cs opening)) (is_of_itself opening b)
      | false ↦ λ e a. ap (λ t. cond t c.carry (carry_of (set_carry cs opening b) opening)) e ∙ carry-set cs opening b a
    ]) refl h

pub carry-set_other : (cs : List OpenCarry) (opening other : ℕ) (b : List ℕ) → other ≢ opening
    → carry_of (set_carry cs opening b) other ≡ carry_of cs other
carry-set_other [] opening other b n = refl
carry-set_other (c ∷ cs) opening other b n =
    (elim (is_of opening c) as (λ t. is_of opening c ≡ t → carry_of
    (cond t (record { opening = opening; carry = b } ∷ cs) (c ∷ set_carry cs opening b)) other ≡ carry_of (c ∷ cs)
    other) [
      | true ↦ λ e.
          let new : is_of other (record { opening = opening; carry = b }) ≡ false = grind (arith, nat_tests) in
          let old : is_of other c ≡ false = grind (arith, nat_tests) in
          ap (λ t. cond t b (carry_of cs other)) new ∙ sym (ap (λ t. cond t c.carry (carry_of cs other)) old)
      | false ↦ λ e. ap (λ rest. cond (is_of other c) c.carry rest) (carry-set_other cs opening other b n)
    ]) refl

-- by what the carry is, and whether an item is there
loses_from : (carry : List ℕ) (items : List Pending) (w : WaitState) (r : Asker)
    → carry_of w.openings r.opening ≡ carry → list_any (is_of r.opening) w.openings ≡ true →
    (piece_from carry items r.count).bytes ++ carry_of (after_from carry items w r).openings
    r.opening ≡ carry ++ taken_from carry items
loses_from (b ∷ bs) items w r e h =
    rw (carry-set w.openings r.opening (drop r.count (b ∷ bs)) h, take-append-drop, append-nil)
loses_from [] (item ∷ items) w r e h =
    rw (carry-set w.openings r.opening (drop r.count item.bytes) h, take-append-drop)
loses_from [] [] w r e h = e

pub loses : (w : WaitState) (r : Asker) → IsEnlisted w r.opening → (piece_of w r).bytes
    ++ carry_of (after_piece w r).openings r.opening ≡ carry_of w.openings r.opening ++ taken_by w r
loses w r h =
    elim (r.count == 0) as (λ t. (cond t (record { bytes = []; taken = None })
    (piece_from (carry_of w.openings r.opening) w.items r.count)).bytes
    ++ carry_of (cond t w (after_from (carry_of w.openings r.opening) w.items w r)).openings
    r.opening ≡ carry_of w.openings r.opening ++ cond t [] (taken_from (carry_of w.openings r.opening) w.items)) [
      | true ↦ sym (append-nil (carry_of w.openings r.opening))
      | false ↦ loses_from (carry_of w.openings r.opening) w.items w r refl h
    ]

leaves_from : (carry : List ℕ) (items : List Pending) (w : WaitState) (r : Asker) (other : ℕ) → other ≢ r.opening
    → carry_of (after_from carry items w r).openings other ≡ carry_of w.openings other
leaves_from (b ∷ bs) items w r other n = carry-set_other w.openings r.opening other (drop r.count (b ∷ bs)) n
leaves_from [] (item ∷ items) w r other n = carry-set_other w.openings r.opening other (drop r.count item.bytes) n
leaves_from [] [] w r other n = refl

pub leaves : (w : WaitState) (r : Asker) (other : ℕ) → other ≢ r.opening
    → carry_of (after_piece w r).openings other ≡ carry_of w.openings other
leaves w r other n =
    elim (r.count == 0) as (λ t. carry_of (cond t w (after_from (carry_of w.openings r.opening) w.items w r)).openings
    other ≡ carry_of w.openings other)
    [ true ↦ refl | false ↦ leaves_from (carry_of w.openings r.opening) w.items w r other n ]

not_found : (p : Asker → Bool) (rs : List Asker) (conn tag : ℕ) (r : Asker) → find p (without_read rs conn tag) ≡ Some r
    → is_read conn tag r ≡ false
not_found p [] conn tag r h = cc
not_found p (x ∷ xs) conn tag r h =
    (elim (is_read conn tag x) as (λ b. is_read conn tag x ≡ b → find p
    (cond (not b) (x ∷ without_read xs conn tag) (without_read xs conn tag)) ≡ Some r → is_read conn tag r ≡ false) [
      | true ↦ λ e k. not_found p xs conn tag r k
      | false ↦ λ e k.
          (elim (p x) as (λ b. cond b (Some x) (find p (without_read xs conn tag)) ≡ Some r
          → is_read conn tag r ≡ false) [
            | true ↦ λ k. let same : x ≡ r = cc in sym (ap (is_read conn tag) same)
                ∙ e
            | false ↦ λ k. not_found p xs conn tag r k
          ]) k
    ]) refl h

pub cancelled : (w : WaitState) (conn tag : ℕ) (r : Asker) → next_of (after_cancel w conn tag) ≡ Some r
    → is_read conn tag r ≡ false
cancelled w conn tag r h = not_found (can_answer (any_item w) w.openings) w.reads conn tag r h
