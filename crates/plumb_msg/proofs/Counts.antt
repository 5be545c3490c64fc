-- Numbers of data, in a line.
use Rattle.std.proofs.Common.{◌≡◌, ℕ, ◌+◌, ◌-◌, ◌*◌, ◌^◌, ◌<◌, ◌≤◌, Bool, true, false, cond, ◌&&◌, ◌||◌, ◌%◌, ne_eqb}
use Rattle.std.proofs.Common.{eqb, ltb, leb, List, [], ◌∷◌, ◌++◌, length, Option, Some, None, refl, ap, sym, ◌∙◌, arith}
use Rattle.std.specs.Prelude.{is_some}
use Rattle.std.specs.Char.{is_ascii_digit}
use Rattle.std.specs.Fmt.{decimal}
use Rattle.std.proofs.lemmas.Fmt.{decimal_by_steps}
use Rattle.std.proofs.lemmas.Bool.{leb-true, le-leb, false≢true}
use Rattle.std.proofs.lemmas.List.{append-nil}
use Rattle.std.proofs.lemmas.List.Folds.{list_any-append}
use Rattle.am_text.specs.Number.{number_after, number_of}
use Rattle.am_text.proofs.Decimals.{number_is, number_of-decimal}
use Rattle.plumb_msg.specs.Texts.{has_newline}
use Rattle.plumb_msg.specs.Reading.{small, count_of, is_count_front}
use Rattle.plumb_msg.proofs.Readers.{IsLineKind, Completes}

grows : (d n : ℕ) → n ≤ n * 10 + (d - 48)
grows d n = omega arith

guard_some : (b : Bool) (r : Option ℕ) (n : ℕ) → cond b r None ≡ Some n → (b ≡ true) × (r ≡ Some n)
guard_some true r n e = (refl, e)
guard_some false r n e = absurd cc

guard_else : (b : Bool) (r : Option ℕ) (n : ℕ) → cond b None r ≡ Some n → (b ≡ false) × (r ≡ Some n)
guard_else true r n e = absurd cc
guard_else false r n e = (refl, e)

some_is : (a b : ℕ) → Some a ≡ Some b → a ≡ b
some_is a b e = cc

abbrev digit_fits : ℕ → ℕ → Bool
digit_fits n d = is_ascii_digit d && ltb (n * 10 + (d - 48)) (2 ^ 64)

number_ge : (bs : List ℕ) (n k : ℕ) → number_after n bs ≡ Some k → n ≤ k
unfolding number_after
number_ge [] n k e = let same = some_is n k e in omega (arith, same)
number_ge (d ∷ ds) n k e =
    let g = guard_some (digit_fits n d) (number_after (n * 10 + (d - 48)) ds) k e in
    omega (arith, grows d n, number_ge ds (n * 10 + (d - 48)) k g.1)

-- the number of a front of digits is no larger
number_front : (bs more : List ℕ) (n k : ℕ) → number_after n (bs ++ more) ≡ Some k → (j : ℕ)
    × (number_after n bs ≡ Some j) × (j ≤ k)
unfolding number_after
number_front [] more n k e = (n, refl, number_ge more n k e)
number_front (d ∷ ds) more n k e =
    let g = guard_some (digit_fits n d) (number_after (n * 10 + (d - 48)) (ds ++ more)) k e in
    let r = number_front ds more (n * 10 + (d - 48)) k g.1 in
    (r.0, ap (λ (t : Bool). cond t (number_after (n * 10 + (d - 48)) ds) None) g.0 ∙ r.1, r.2)

decimal_front : (d : ℕ) (ds more : List ℕ) (k : ℕ) → number_of (d ∷ (ds ++ more)) ≡ Some k → (j : ℕ)
    × (number_of (d ∷ ds) ≡ Some j) × (j ≤ k)
decimal_front d [] [] k e = (k, e, omega arith)
decimal_front d [] (b ∷ more) k e =
    let g = guard_else (eqb d 48) (number_after 0 (d ∷ b ∷ more)) k e in
    number_front (d ∷ []) (b ∷ more) 0 k g.1
decimal_front d (c ∷ ds) more k e =
    let g = guard_else (eqb d 48) (number_after 0 (d ∷ c ∷ (ds ++ more))) k e in
    let r = number_front (d ∷ c ∷ ds) more 0 k g.1 in
    (r.0, ap (λ (t : Bool). cond t None (number_after 0 (d ∷ c ∷ ds))) g.0 ∙ r.1, r.2)

-- ---- at most so many

small_is : (o : Option ℕ) (n : ℕ) → small o ≡ Some n → (o ≡ Some n) × (n ≤ 1048576)
small_is None n e = absurd cc
small_is (Some k) n e =
    let g = guard_some (leb k 1048576) (Some k) n e in
    let same = some_is k n g.1 in
    (g.1, omega (arith, same, leb-true k 1048576 g.0))

small_again : (n : ℕ) → n ≤ 1048576 → small (Some n) ≡ Some n
small_again n h = rw (le-leb n 1048576 h) refl

pub count_is : (bs : List ℕ) (n : ℕ) → count_of bs ≡ Some n → (bs ≡ decimal n) × (n ≤ 1048576)
count_is bs n e = let s = small_is (number_of bs) n e in ((number_is bs n s.0).1, s.1)

pub count_again : (n : ℕ) → n ≤ 1048576 → count_of (decimal n) ≡ Some n
count_again n h = ap small (number_of-decimal n (omega (arith, h))) ∙ small_again n h

-- ---- a decimal has no newline

not_newline : (b : ℕ) → 48 ≤ b → eqb b 10 ≡ false
not_newline b h = ne_eqb b 10 (λ (e : b ≡ 10). omega arith)

pub decimal-clean : (n : ℕ) → n < 2 ^ 64 → has_newline (decimal n) ≡ false
decimal-clean n fits =
    decimal_by_steps (λ n ds. has_newline ds ≡ false)
    (λ n lt. rw (not_newline (48 + n) (omega arith)) refl)
    (λ n ds ge before. list_any-append (λ b. eqb b 10) ds ((48 + n % 10) ∷ [])
    ∙ rw (before, not_newline (48 + n % 10) (omega arith)) refl)
    n fits

-- ---- fronts

or_right : (a b : Bool) → b ≡ true → (a || b) ≡ true
or_right true b e = refl
or_right false b e = e

or_cases : (a b : Bool) → a ≡ false → (a || b) ≡ true → b ≡ true
or_cases true b n e = absurd (false≢true (sym n))
or_cases false b n e = e

some_test : (o : Option ℕ) (n : ℕ) → o ≡ Some n → is_some o ≡ true
some_test o n e = ap is_some e

value_from : (o : Option ℕ) → is_some o ≡ true → (n : ℕ) × (o ≡ Some n)
value_from None e = absurd (false≢true e)
value_from (Some n) e = (n, refl)

count-down : (bs more : List ℕ) (n : ℕ) → count_of (bs ++ more) ≡ Some n → is_count_front bs ≡ true
count-down [] more n e = refl
count-down (d ∷ ds) more n e =
    let s = small_is (number_of (d ∷ (ds ++ more))) n e in
    let r = decimal_front d ds more n s.0 in
    or_right (eqb (length (d ∷ ds)) 0) (is_some (count_of (d ∷ ds)))
    (some_test (count_of (d ∷ ds)) r.0 (ap small r.1 ∙ small_again r.0 (omega (arith, r.2, s.1))))

count-up : (bs : List ℕ) → has_newline bs ≡ false → is_count_front bs ≡ true → Completes count_of bs
unfolding number_after
count-up [] clean h = record { more = 48 ∷ []; clean = refl; value = 0; reads = refl }
count-up (d ∷ ds) clean h =
    let v = value_from (count_of (d ∷ ds)) (or_cases (eqb (length (d ∷ ds)) 0) (is_some (count_of (d ∷ ds)))
    (ne_eqb (length (d ∷ ds)) 0 (λ (e : length (d ∷ ds) ≡ 0). omega arith)) h) in
    record { more = []; clean = refl; value = v.0; reads = ap count_of (append-nil (d ∷ ds)) ∙ v.1 }

pub count_kind : IsLineKind count_of is_count_front
count_kind = record { down = count-down; up = count-up; empty = refl }
