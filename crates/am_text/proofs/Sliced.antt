-- A part of a text's bytes, one rune further.
use Rattle.std.proofs.Common.{◌≡◌, ℕ, zero, suc, ◌+◌, ◌-◌, ◌<◌, ◌≤◌, List, [], ◌∷◌, ◌++◌, length, take, drop, get_or}
use Rattle.std.proofs.Common.{refl, sym, ap, ◌∙◌, append_assoc, arith}
use Rattle.std.proofs.lemmas.List.{append-nil}
use Rattle.am_text.specs.Utf8.{rune_bytes, utf8}

drop-none : (s : ℕ) (xs : List ℕ) → xs ≡ [] → drop s xs ≡ []
drop-none zero xs e = e
drop-none (suc s) [] e = refl
drop-none (suc s) (x ∷ xs) e = absurd cc

take-none : (m : ℕ) (xs : List ℕ) → xs ≡ [] → take m xs ≡ []
take-none zero xs e = refl
take-none (suc m) [] e = refl
take-none (suc m) (x ∷ xs) e = absurd cc

drop-append : (s : ℕ) (x y : List ℕ) → drop s (x ++ y) ≡ drop s x ++ drop (s - length x) y
drop-append zero [] y = refl
drop-append zero (a ∷ x) y = let e : 0 - suc (length x) ≡ 0 = omega arith in rw e refl
drop-append (suc s) [] y = let e : suc s - 0 ≡ suc s = omega arith in rw e refl
drop-append (suc s) (a ∷ x) y = let e : suc s - suc (length x) ≡ s - length x = omega arith in rw e (drop-append s x y)

take-append : (m : ℕ) (x y : List ℕ) → take m (x ++ y) ≡ take m x ++ take (m - length (take m x)) y
take-append zero [] y = refl
take-append zero (a ∷ x) y = refl
take-append (suc m) [] y = let e : suc m - 0 ≡ suc m = omega arith in rw e refl
take-append (suc m) (a ∷ x) y =
    let e : suc m - suc (length (take m x)) ≡ m - length (take m x) = omega arith in
    rw e (ap (λ (l : List ℕ). a ∷ l) (take-append m x y))

-- the part of two texts is the part of the first and then that of the second
part-append : (s m : ℕ) (x y : List ℕ) → take m (drop s (x ++ y)) ≡ take m (drop s x)
    ++ take (m - length (take m (drop s x))) (drop (s - length x) y)
part-append s m x y = rw (drop-append s x y) (take-append m (drop s x) (drop (s - length x) y))

-- a text's part, from its first rune on
pub part-front : (s m : ℕ) (rs : List ℕ) → 0 < length rs
    → take m (drop s (utf8 rs)) ≡ take m (drop s (rune_bytes (get_or rs 0 0)))
    ++ take (m - length (take m (drop s (rune_bytes (get_or rs 0 0)))))
    (drop (s - length (rune_bytes (get_or rs 0 0))) (utf8 (drop 1 rs)))
part-front s m [] h = absurd (omega arith)
part-front s m (r ∷ rs) h = part-append s m (rune_bytes r) (utf8 rs)

pub part-nil : (s m : ℕ) (rs : List ℕ) → length rs ≡ 0 → take m (drop s (utf8 rs)) ≡ []
part-nil s m [] h = take-none m (drop s (utf8 [])) (drop-none s (utf8 []) refl)
part-nil s m (r ∷ rs) h = absurd (omega arith)

pub ruleset slicing = (part-front, part-nil, append_assoc, append-nil)
