-- The first bytes of a text are those of its first runes.
use Rattle.std.proofs.Common.{◌≡◌, ℕ, zero, suc, ◌+◌, ◌-◌, ◌<◌, ◌≤◌, Bool, true, false, cond, List, [], ◌∷◌, ◌++◌}
use Rattle.std.proofs.Common.{length, take, drop, refl, sym, ap, ◌∙◌, arith}
use Rattle.std.specs.Prelude.{encode_utf8, slice_range}
use Rattle.std.proofs.lemmas.Grind.{flat_map-append}
use Rattle.std.proofs.lemmas.List.{length-append, length-take, length-drop, take-append-drop}
use Rattle.std.proofs.lemmas.Str.{length-encode, len_utf8_bounds}
use Rattle.std.specs.Prelude.{nat_lt}
use Rattle.std.proofs.lemmas.Bool.Decides.{nat_tests}
use lib.Utf8.{scalar}
use lib.Seq.{drop-append-add}
use Rattle.am_text.specs.Utf8.{rune_bytes, utf8}
use Rattle.rune_gap.specs.Marks.{size}

-- each rune has a byte at least
some_bytes : (c : ℕ) (b : Bool) → 1 ≤ length (cond b (encode_utf8 c) (encode_utf8 0xFFFD))
some_bytes c true = omega (arith, length-encode c, (len_utf8_bounds c).0)
some_bytes c false = omega (arith, length-encode 0xFFFD, (len_utf8_bounds 0xFFFD).0)

long_enough : (t : List ℕ) → length t ≤ length (utf8 t)
long_enough [] = omega arith
long_enough (c ∷ t) = omega (arith, length-append (rune_bytes c) (utf8 t), some_bytes c (scalar c), long_enough t)

-- a part that ends in the first of two texts
front_part : (a b : List ℕ) (offset count : ℕ) → offset + count ≤ length a
    → take count (drop offset (a ++ b)) ≡ take count (drop offset a)
front_part [] [] zero zero h = refl
front_part [] (y ∷ b) zero zero h = refl
front_part [] b zero (suc c) h = absurd (omega (arith, h))
front_part [] b (suc o) c h = absurd (omega (arith, h))
front_part (x ∷ a) b zero zero h = refl
front_part (x ∷ a) b zero (suc c) h = ap (λ (l : List ℕ). x ∷ l) (front_part a b zero c (omega (arith, h)))
front_part (x ∷ a) b (suc o) c h = front_part a b o c (omega (arith, h))

take_all : (t : List ℕ) (k : ℕ) → length t ≤ k → take k t ≡ t
take_all [] zero h = refl
take_all [] (suc k) h = refl
take_all (x ∷ t) zero h = absurd (omega (arith, h))
take_all (x ∷ t) (suc k) h = ap (λ (l : List ℕ). x ∷ l) (take_all t k (omega (arith, h)))

-- the first runes are enough, where they are as many as the bytes up to the part's end
few_are_enough : (t : List ℕ) (k offset count : ℕ) → k ≤ length t → offset + count ≤ k
    → take count (drop offset (utf8 (take k t))) ≡ take count (drop offset (utf8 t))
few_are_enough t k offset count within enough =
    let whole : utf8 t ≡ utf8 (take k t) ++ utf8 (drop k t) = ap utf8 (sym (take-append-drop k t))
    ∙ flat_map-append rune_bytes (take k t) (drop k t) in
    sym (ap (λ (l : List ℕ). take count (drop offset l)) whole
    ∙ front_part (utf8 (take k t)) (utf8 (drop k t)) offset count (omega (
      arith,
      enough,
      within,
      length-take k t,
      long_enough (take k t),
    )))

pub front_is_enough : (t runes : List ℕ) (k offset count : ℕ) → runes ≡ take k t → k ≤ length t
    → (k < length t → offset + count ≤ k)
    → take count (drop offset (utf8 runes)) ≡ take count (drop offset (utf8 t))
front_is_enough t runes k offset count e within enough =
    ap (λ (l : List ℕ). take count (drop offset (utf8 l))) e
    ∙ elim (nat_lt k (length t)) as (λ b. nat_lt k (length t) ≡ b → take count
    (drop offset (utf8 (take k t))) ≡ take count (drop offset (utf8 t))) [
      | true ↦ λ h. few_are_enough t k offset count within (enough (grind (arith, nat_tests)))
      | false ↦ λ h. ap (λ (l : List ℕ). take count (drop offset (utf8 l))) (take_all t k (grind (arith, nat_tests)))
    ] refl

-- a part is found from a place on that isn't past it
pub part_from : (items runes : List ℕ) (place end bytes offset count : ℕ) → place ≤ end → end ≤ length items
    → bytes ≡ size (take place items) → bytes ≤ offset
    → runes ≡ slice_range items place end → (end < length items → offset - bytes + count ≤ end - place)
    → take count (drop (offset - bytes) (utf8 runes)) ≡ take count (drop offset (utf8 items))
part_from items runes place end bytes offset count order within b before e enough =
    let front : List ℕ = utf8 (take place items) in
    let rest : List ℕ = drop place items in
    let whole : utf8 items ≡ front ++ utf8 rest = ap utf8 (sym (take-append-drop place items))
    ∙ flat_map-append rune_bytes (take place items) rest in
    let from : length front + (offset - bytes) ≡ offset = omega (arith, b, before) in
    let later : drop offset (utf8 items) ≡ drop (offset - bytes) (utf8 rest) =
    ap (drop offset) whole ∙ ap (λ (i : ℕ). drop i (front ++ utf8 rest)) (sym from)
    ∙ drop-append-add front (utf8 rest) (offset - bytes) in
    let l : length rest ≡ length items - place = length-drop place items in
    front_is_enough rest runes (end - place) (offset - bytes) count e (omega (arith, l, within))
    (λ h. enough (omega (arith, h, l, order))) ∙ ap (take count) (sym later)
