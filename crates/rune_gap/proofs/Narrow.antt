-- A plain text is its own bytes.
use Rattle.std.proofs.Common.{◌≡◌, ℕ, zero, suc, ◌+◌, ◌-◌, ◌<◌, ◌≤◌, Bool, true, false, cond, List, [], ◌∷◌, ◌++◌}
use Rattle.std.proofs.Common.{encode_utf8, length, take, drop, take_all, refl, sym, ap, ◌∙◌, inl, inr, length-append}
use Rattle.std.proofs.Common.{length-drop, arith}
use Rattle.std.specs.Prelude.{slice_index, nat_lt}
use Rattle.std.specs.Char.{len_utf8}
use Rattle.std.proofs.lemmas.Bool.{cases_lt}
use Rattle.std.proofs.lemmas.Bool.Decides.{nat_tests}
use Rattle.std.proofs.lemmas.Str.{length-encode, encode_ascii}
use lib.Utf8.{scalar}
use Rattle.am_text.specs.Utf8.{rune_bytes, utf8}
use Rattle.rune_gap.specs.Marks.{size}
use Rattle.rune_gap.proofs.Marked.{size_least, some_byte, plain_part}

-- what takes one byte is below 128, and that byte
one_byte : (c : ℕ) → len_utf8 c ≡ 1 → c < 128
one_byte c e = grind (arith, nat_tests, e)

narrow_scalar : (c : ℕ) (b : Bool) → length (cond b (encode_utf8 c) (encode_utf8 0xFFFD)) ≡ 1 → (c < 128)
    × (cond b (encode_utf8 c) (encode_utf8 0xFFFD) ≡ c ∷ [])
narrow_scalar c true e = let small : c < 128 = one_byte c (sym (length-encode c) ∙ e) in (small, encode_ascii c small)
narrow_scalar c false e = absurd (omega (arith, e, length-encode 0xFFFD))

narrow_rune : (c : ℕ) → length (rune_bytes c) ≡ 1 → (c < 128) × (rune_bytes c ≡ c ∷ [])
narrow_rune c e = narrow_scalar c (scalar c) e

first_is_one : (c : ℕ) (t : List ℕ) → size (c ∷ t) ≡ length (c ∷ t) → length (rune_bytes c) ≡ 1
first_is_one c t plain = omega (arith, plain, length-append (rune_bytes c) (utf8 t), some_byte c, size_least t)

rest_is_plain : (c : ℕ) (t : List ℕ) → size (c ∷ t) ≡ length (c ∷ t) → size t ≡ length t
rest_is_plain c t plain = omega (arith, plain, length-append (rune_bytes c) (utf8 t), some_byte c, size_least t)

pub own_bytes : (t : List ℕ) → size t ≡ length t → t ≡ utf8 t
own_bytes [] plain = refl
own_bytes (c ∷ t) plain =
    ap (λ (l : List ℕ). c ∷ l) (own_bytes t (rest_is_plain c t plain))
    ∙ ap (λ (l : List ℕ). l ++ utf8 t) (sym (narrow_rune c (first_is_one c t plain)).1)

pub each_fits : (t : List ℕ) (k : ℕ) → size t ≡ length t → k < length t → slice_index t k < 256
each_fits [] k plain h = absurd (omega (arith, h))
each_fits (c ∷ t) zero plain h = omega (arith, (narrow_rune c (first_is_one c t plain)).0)
each_fits (c ∷ t) (suc k) plain h = each_fits t k (rest_is_plain c t plain) (omega (arith, h))

none_of : (l : List ℕ) (n : ℕ) → length l ≡ 0 → take n l ≡ []
none_of [] zero h = refl
none_of [] (suc n) h = refl
none_of (x ∷ l) n h = absurd (omega (arith, h))

-- a part that ends with the list, or before
cut_from : (items : List ℕ) (offset count end : ℕ) → offset ≤ length items → end ≤ length items → end ≤ offset + count
    → (end < offset + count → end ≡ length items)
    → take (end - offset) (drop offset items) ≡ take count (drop offset items)
cut_from items offset count end within fits most last = elim (cases_lt end (offset + count)) as
    (λ s. take (end - offset) (drop offset items) ≡ take count (drop offset items)) [
      | inl lt ↦ let l : length (drop offset items) ≡ length items - offset = length-drop offset items in
          take_all (end - offset) (drop offset items) (omega (arith, l, last lt))
          ∙ sym (take_all count (drop offset items) (omega (arith, l, last lt, lt)))
      | inr ge ↦ let same : end - offset ≡ count = omega (arith, ge, most) in
          ap (λ (n : ℕ). take n (drop offset items)) same
    ]

pub cut_short : (items : List ℕ) (offset count q0 q1 : ℕ) → q0 ≤ length items → q0 ≤ offset
    → (q0 < offset → q0 ≡ length items) → q1 ≤ length items → q1 ≤ q0 + count
    → (q1 < q0 + count → q1 ≡ length items) → take (q1 - q0) (drop q0 items) ≡ take count (drop offset items)
cut_short items offset count q0 q1 within before past fits most last = elim (cases_lt q0 offset) as
    (λ s. take (q1 - q0) (drop q0 items) ≡ take count (drop offset items)) [
      | inl lt ↦ none_of (drop q0 items) (q1 - q0) (omega (arith, length-drop q0 items, past lt))
          ∙ sym (none_of (drop offset items) count (omega (arith, length-drop offset items, past lt, lt)))
      | inr ge ↦ let same : q0 ≡ offset = omega (arith, ge, before) in
          cut_from items q0 count q1 within fits most last ∙ ap (λ (n : ℕ). take count (drop n items)) same
    ]

-- the bytes of a part of a plain text
pub plain_cut : (items runes bytes : List ℕ) (offset count q0 q1 : ℕ) → size items ≡ length items
    → runes ≡ take (q1 - q0) (drop q0 items) → bytes ≡ utf8 runes
    → take (q1 - q0) (drop q0 items) ≡ take count (drop offset items) → bytes ≡ take count (drop offset (utf8 items))
plain_cut items runes bytes offset count q0 q1 plain e is cut =
    is ∙ ap utf8 e ∙ sym (own_bytes (take (q1 - q0) (drop q0 items)) (plain_part items q0 (q1 - q0) plain))
    ∙ cut ∙ ap (λ (l : List ℕ). take count (drop offset l)) (own_bytes items plain)
