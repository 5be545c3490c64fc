-- Tags that are asked.
use Rattle.std.proofs.Common.{◌≡◌, ◌⊎◌, ℕ, zero, suc, ◌+◌, ◌≤◌, ◌<◌, Bool, true, false, cond, List, [], ◌∷◌, length}
use Rattle.std.proofs.Common.{refl, sym, ap, ◌∙◌, arith, inl, inr}
use Rattle.std.specs.Prelude.{◌==◌, ◌||◌, if◌then◌else◌}
use Rattle.std.specs.List.{list_any}
use Rattle.std.proofs.lemmas.Bool.{eqb-true, eqb-false}
use Rattle.ninep_client.specs.declared.asked.Asked.{Asked}
use Rattle.ninep_client.specs.Asking.{has_tag, is_asked}

-- ---- all but one tag

rid : ℕ → List Asked → List Asked
rid x [] = []
rid x (a ∷ asked) = if a.tag == x then rid x asked else a ∷ rid x asked

rid_le : (x : ℕ) (asked : List Asked) → length (rid x asked) ≤ length asked
unfolding rid
rid_le x [] = omega arith
rid_le x (a ∷ asked) =
    let ih = rid_le x asked in
    elim (a.tag == x) as (λ b. length (cond b (rid x asked) (a ∷ rid x asked)) ≤ suc (length asked)) [
      | true ↦ omega arith
      | false ↦ omega arith
    ]

rid_lt : (x : ℕ) (asked : List Asked) → is_asked x asked ≡ true → length (rid x asked) < length asked
unfolding rid
rid_lt x [] e = (cc)
rid_lt x (a ∷ asked) e =
    let le = rid_le x asked in
    elim (a.tag == x) as (λ b. (b || is_asked x asked) ≡ true → length (cond b (rid x asked) (a ∷ rid x asked)) < suc
    (length asked)) [
      | true ↦ λ w. omega arith
      | false ↦ λ w. let ih = rid_lt x asked w in omega arith
    ] e

-- another tag stays
rid_keeps : (y x : ℕ) (asked : List Asked) → y < x → is_asked y asked ≡ true → is_asked y (rid x asked) ≡ true
unfolding rid
rid_keeps y x [] lt e = e
rid_keeps y x (a ∷ asked) lt e =
    elim (a.tag == x) as (λ b. (a.tag == x) ≡ b → is_asked y (cond b (rid x asked) (a ∷ rid x asked)) ≡ true) [
      | true ↦ λ same.
          elim (a.tag == y) as (λ b. (a.tag == y) ≡ b → (b || is_asked y asked) ≡ true → is_asked y
          (rid x asked) ≡ true) [
            | true ↦ λ other w. let p = eqb-true a.tag x same in let q = eqb-true a.tag y other in absurd (omega arith)
            | false ↦ λ other w. rid_keeps y x asked lt w
          ] refl e
      | false ↦ λ same.
          elim (a.tag == y) as (λ b. (b || is_asked y asked) ≡ true → (b || is_asked y (rid x asked)) ≡ true) [
            | true ↦ λ w. refl
            | false ↦ λ w. rid_keeps y x asked lt w
          ] e
    ] refl

-- Where all tags from 1 to n are asked, there are n at least.
pub all_asked : (n : ℕ) (asked : List Asked) → ((tag : ℕ) → tag < suc n → 1 ≤ tag → is_asked tag asked ≡ true)
    → n ≤ length asked
all_asked zero asked all = omega arith
all_asked (suc n) asked all =
    let last = all (suc n) (omega arith) (omega arith) in
    let lt = rid_lt (suc n) asked last in
    let ih = all_asked n (rid (suc n) asked) (λ tag less low. rid_keeps tag (suc n) asked (omega arith)
    (all tag (omega arith) low)) in
    omega arith
