-- Rows and places, one further.
use Rattle.std.proofs.Common.{◌≡◌, ℕ, zero, suc, ◌+◌, ◌<◌, ◌≤◌, Bool, true, false, List, [], ◌∷◌, ◌++◌, length, drop}
use Rattle.std.proofs.Common.{◌==◌, slice_get, refl, sym, ap, subst, ◌∙◌, arith}
use Rattle.std.specs.Prelude.{nat_lt}
use Rattle.std.specs.List.{position_or_len}
use Rattle.std.proofs.lemmas.Bool.Decides.{nat_tests}
use Rattle.std.proofs.lemmas.List.Elements.{All-nil, All-cons, All-head, All-tail, All-append}
use Rattle.fid_table.specs.declared.session.Waiting.{Waiting}
use Rattle.core_events.specs.declared.response.Response.{Response}
use Rattle.fid_table.specs.Tables.{is_waiting}
use Rattle.core_events.specs.Responses.{IsSaid, AreSaid}
use Rattle.core_steps.specs.Order.{older, younger, begins_older, merged, is_here}
use Rattle.core_steps.proofs.Orders.{split, merged_none, merged_all}

-- ---- a place

abbrev place : ℕ → ℕ → List Waiting → ℕ
place conn tag ws = position_or_len (is_waiting conn tag) ws

here_now : (conn tag : ℕ) (ws : List Waiting) (k : ℕ) → is_here conn tag (slice_get ws k) ≡ true
    → place conn tag (drop k ws) ≡ 0
here_now conn tag [] zero h = refl
here_now conn tag [] (suc k) h = refl
here_now conn tag (w ∷ ws) zero h = rw h refl
here_now conn tag (w ∷ ws) (suc k) h = here_now conn tag ws k h

not_now : (conn tag : ℕ) (ws : List Waiting) (k : ℕ) → k < length ws → is_here conn tag (slice_get ws k) ≡ false
    → place conn tag (drop k ws) ≡ 1 + place conn tag (drop (suc k) ws)
not_now conn tag [] k l h = absurd (omega (arith, l))
not_now conn tag (w ∷ ws) zero l h = rw h refl
not_now conn tag (w ∷ ws) (suc k) l h = not_now conn tag ws k (omega (arith, l)) h

none_left : (conn tag : ℕ) (ws : List Waiting) (k : ℕ) → length ws ≤ k → place conn tag (drop k ws) ≡ 0
none_left conn tag [] zero l = refl
none_left conn tag [] (suc k) l = refl
none_left conn tag (w ∷ ws) zero l = absurd (omega (arith, l))
none_left conn tag (w ∷ ws) (suc k) l = none_left conn tag ws k (omega (arith, l))

pub place_found : (conn tag k total : ℕ) (ws : List Waiting) (b : Bool) → b ≡ is_here conn tag (slice_get ws k) → b ≡ true
    → k + place conn tag (drop k ws) ≡ total → k ≡ total
place_found conn tag k total ws b e h is =
    let here : place conn tag (drop k ws) ≡ 0 = here_now conn tag ws k (sym e ∙ h) in omega (arith, is, here)

pub place_passed : (conn tag k total : ℕ) (ws : List Waiting) (b : Bool) → b ≡ is_here conn tag (slice_get ws k)
    → b ≡ false → k < length ws → k + place conn tag (drop k ws) ≡ total
    → (k + 1) + place conn tag (drop (k + 1) ws) ≡ total
place_passed conn tag k total ws b e h l is =
    let one : k + 1 ≡ suc k = omega arith in
    let next : place conn tag (drop k ws) ≡ 1 + place conn tag (drop (suc k) ws) = not_now conn tag ws k l (sym e ∙ h) in
    let same : place conn tag (drop (k + 1) ws) ≡ place conn tag (drop (suc k) ws) =
    ap (λ (n : ℕ). place conn tag (drop n ws)) one in
    omega (arith, is, next, same)

pub place_last : (conn tag k count total : ℕ) (ws : List Waiting) → count ≡ length ws → count ≤ k → k ≤ count
    → k + place conn tag (drop k ws) ≡ total → count ≡ total
place_last conn tag k count total ws e l m is =
    let none : place conn tag (drop k ws) ≡ 0 = none_left conn tag ws k (omega (arith, e, l)) in
    omega (arith, is, none, l, m)

pub ruleset places = (place_found, place_passed, place_last)

-- ---- rows

-- the first is taken where the row begins with an older one
pub begins : (age : Response → ℕ) (n : ℕ) (row : List Response) (b : Bool) → b ≡ begins_older age n row → b ≡ false
    → older age n row ≡ []
begins age n [] b e h = refl
begins age n (x ∷ row) b e h =
    let no : nat_lt n (age x) ≡ true = grind (arith, nat_tests) in rw no refl

pub behind : (age : Response → ℕ) (n : ℕ) (row : List Response) (b : Bool) → b ≡ begins_older age n row → b ≡ false
    → younger age n row ≡ row
behind age n [] b e h = refl
behind age n (x ∷ row) b e h =
    let no : nat_lt n (age x) ≡ true = grind (arith, nat_tests) in rw no refl

-- where the row is empty, the others are the whole
pub no_row : (age : Response → ℕ) (others row : List Response) (b : Bool) → b ≡ (length row == 0) → b ≡ true
    → others ≡ merged age others row
no_row age others [] b e h = sym (merged_none age others)
no_row age others (x ∷ row) b e h = let no : (length (x ∷ row) == 0) ≡ false = grind (arith, nat_tests) in absurd cc

-- ---- what can be said

front_said : (xs ys : List Response) → AreSaid (xs ++ ys) → AreSaid xs
front_said [] ys h = All-nil IsSaid
front_said (x ∷ xs) ys h =
    All-cons IsSaid x xs (All-head IsSaid x (xs ++ ys) h) (front_said xs ys (All-tail IsSaid x (xs ++ ys) h))

back_said : (xs ys : List Response) → AreSaid (xs ++ ys) → AreSaid ys
back_said [] ys h = h
back_said (x ∷ xs) ys h = back_said xs ys (All-tail IsSaid x (xs ++ ys) h)

row_in : (age : Response → ℕ) (ys row : List Response) → AreSaid (merged age ys row) → AreSaid row
row_in age [] row h = h
row_in age (y ∷ ys) row h =
    let old : List Response = older age (age y) row in
    let young : List Response = younger age (age y) row in
    let rest : List Response = merged age ys young in
    subst AreSaid (split age (age y) row)
    (All-append IsSaid old young (front_said old (y ∷ rest) h)
    (row_in age ys young (All-tail IsSaid y rest (back_said old (y ∷ rest) h))))

-- what was put so far, and what is left of the row
module _ (age : Response → ℕ) (all others row all_others all_row : List Response) (said : AreSaid all_row)
    (others_said : AreSaid all_others) (is : all ++ merged age others row ≡ merged age all_others all_row) where
  whole_said : AreSaid (all ++ merged age others row)
  whole_said = subst AreSaid (sym is) (merged_all age IsSaid all_others all_row others_said said)

  pub put_said : AreSaid all
  put_said = front_said all (merged age others row) whole_said

  pub left_said : AreSaid row
  left_said = row_in age others row (back_said all (merged age others row) whole_said)
