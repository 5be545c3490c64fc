-- Sets of several words.
use Rattle.std.proofs.Common.{◌≡◌, ℕ, zero, suc, ◌+◌, ◌-◌, ◌*◌, ◌/◌, ◌%◌, ◌^◌, ◌<◌, ◌≤◌, ◌⊎◌, ◌==◌, Bool, true, false}
use Rattle.std.proofs.Common.{not, List, [], ◌∷◌, length, replicate, Option, Some, None, refl, sym, ap, subst, ◌∙◌, inl}
use Rattle.std.proofs.Common.{inr, arith, w64}
use Rattle.std.specs.Prelude.{IsTrue, ◌↔◌, IfSome, IfNone, is_some, bit_and, bit_or, slice_index, slice_set}
use Rattle.std.specs.Int.{bit_at, bit_not, trailing_zeros}
use Rattle.std.specs.Int.Bits.{bit_xor}
use Rattle.std.proofs.Math.ListN.{get_or-eq_default}
use Rattle.std.proofs.lemmas.Bool.{cases_eq, cases_lt, cases_Bool}
use Rattle.std.proofs.lemmas.Bool.Decides.{nat_tests}
use Rattle.std.proofs.lemmas.Nat.{and_le_r, and_le_l}
use Rattle.std.proofs.lemmas.Nat.Bits.{bit_at_cat_low, bit_at_cat_high, bit_at-zero, bit_at-lt, bit_at_above}
use Rattle.std.proofs.lemmas.Nat.Bits.{bit_at-trailing_zeros, bit_at_and, bit_at_or, bit_at_xor, bit_at_ones}
use Rattle.std.proofs.lemmas.Nat.Bits.{bit_at_set_same, bit_at_set_other, bit_at-pow_same, bit_at-pow_other}
use Rattle.std.proofs.lemmas.Nat.Bits.{same_from_bits}
use Rattle.re_sets.specs.Words.{on}
use Rattle.re_sets.specs.Tables.{take_away}
use Rattle.re_sets.proofs.Wording.{on_is, on_zero}
use Rattle.re_machine.specs.Sets.{HasOne, IsWithout}
use Rattle.re_machine.specs.Wides.{value_of, IsEach}
use Rattle.re_machine.proofs.Adding.{set_same, set_other}
use Rattle.re_machine.proofs.Words64.{without_is}

-- the part of a word
masked : (x i : ℕ) → i < 64 → bit_at (bit_and x (2 ^ 64 - 1)) i ≡ bit_at x i
masked x i l = omega (arith, bit_at_and x (2 ^ 64 - 1) i, bit_at_ones 64 i l, bit_at-lt x i)

small : (x : ℕ) → bit_and x (2 ^ 64 - 1) < 2 ^ 64
small x = omega (arith, and_le_r x (2 ^ 64 - 1))

-- a bit of the number is one of a word
pub bit_of_word : (xs : List ℕ) (n : ℕ) → bit_at (value_of xs) n ≡ bit_at (slice_index xs (n / 64)) (n % 64)
bit_of_word [] n = bit_at-zero n ∙ sym (bit_at-zero (n % 64))
bit_of_word (x ∷ xs) n = elim (cases_lt n 64) [
  | inl l ↦
      let q : n / 64 ≡ zero = omega (arith, l) in
      let r : n % 64 ≡ n = omega (arith, l) in
      bit_at_cat_low (value_of xs) 64 (bit_and x (2 ^ 64 - 1)) n l ∙ masked x n l
      ∙ sym (subst (λ (z : ℕ). bit_at (slice_index (x ∷ xs) z) (n % 64) ≡ bit_at x n) (sym q)
      (ap (λ (z : ℕ). bit_at x z) r))
  | inr g ↦
      let q : n / 64 ≡ suc ((n - 64) / 64) = omega (arith, g) in
      let r : n % 64 ≡ (n - 64) % 64 = omega (arith, g) in
      bit_at_cat_high (value_of xs) 64 (bit_and x (2 ^ 64 - 1)) n (small x) g ∙ bit_of_word xs (n - 64)
      ∙ sym (subst (λ (z : ℕ). bit_at (slice_index (x ∷ xs) z) (n % 64) ≡ bit_at (slice_index xs ((n - 64) / 64))
      ((n - 64) % 64)) (sym q) (ap (λ (z : ℕ). bit_at (slice_index xs ((n - 64) / 64)) z) r))
]

beyond : (xs : List ℕ) (k : ℕ) → length xs ≤ k → slice_index xs k ≡ 0
beyond xs k l = get_or-eq_default xs 0 l

-- words made of two, one by one
each_bit : (op : ℕ → ℕ → ℕ) (xs ys zs : List ℕ) (n : ℕ) → length xs ≡ 16 → length ys ≡ 16 → length zs ≡ 16 → op 0
    0 ≡ 0 → IsEach op xs ys zs → bit_at (value_of zs) n ≡ bit_at (op (slice_index xs (n / 64))
    (slice_index ys (n / 64))) (n % 64)
each_bit op xs ys zs n a b c z e = elim (cases_lt (n / 64) 16) [
  | inl l ↦ bit_of_word zs n ∙ ap (λ (w : ℕ). bit_at w (n % 64)) (e (n / 64) l)
  | inr g ↦
      let x : slice_index xs (n / 64) ≡ 0 = beyond xs (n / 64) (omega (arith, a, g)) in
      let y : slice_index ys (n / 64) ≡ 0 = beyond ys (n / 64) (omega (arith, b, g)) in
      let w : slice_index zs (n / 64) ≡ 0 = beyond zs (n / 64) (omega (arith, c, g)) in
      bit_of_word zs n ∙ ap (λ (v : ℕ). bit_at v (n % 64)) (w ∙ sym (ap (λ (v : ℕ). op v (slice_index ys (n / 64))) x
      ∙ ap (λ (v : ℕ). op 0 v) y ∙ z))
]

pub or_value : (xs ys zs : List ℕ) → length xs ≡ 16 → length ys ≡ 16 → length zs ≡ 16 → IsEach bit_or xs ys zs
    → value_of zs ≡ bit_or (value_of xs) (value_of ys)
or_value xs ys zs a b c e = same_from_bits (value_of zs) (bit_or (value_of xs) (value_of ys)) (λ n.
    let x : ℕ = slice_index xs (n / 64) in
    let y : ℕ = slice_index ys (n / 64) in
    omega (
      arith,
      each_bit bit_or xs ys zs n a b c refl e,
      bit_at_or x y (n % 64),
      bit_at_or (value_of xs) (value_of ys) n,
      bit_of_word xs n,
      bit_of_word ys n,
    ))

pub and_value : (xs ys zs : List ℕ) → length xs ≡ 16 → length ys ≡ 16 → length zs ≡ 16 → IsEach bit_and xs ys zs
    → value_of zs ≡ bit_and (value_of xs) (value_of ys)
and_value xs ys zs a b c e = same_from_bits (value_of zs) (bit_and (value_of xs) (value_of ys)) (λ n.
    let x : ℕ = slice_index xs (n / 64) in
    let y : ℕ = slice_index ys (n / 64) in
    omega (
      arith,
      each_bit bit_and xs ys zs n a b c refl e,
      bit_at_and x y (n % 64),
      bit_at_and (value_of xs) (value_of ys) n,
      bit_of_word xs n,
      bit_of_word ys n,
    ))

pub minus_value : (xs ys zs : List ℕ) → length xs ≡ 16 → length ys ≡ 16 → length zs ≡ 16 → IsEach take_away xs ys zs
    → value_of zs ≡ take_away (value_of xs) (value_of ys)
minus_value xs ys zs a b c e = same_from_bits (value_of zs) (take_away (value_of xs) (value_of ys)) (λ n.
    let x : ℕ = slice_index xs (n / 64) in
    let y : ℕ = slice_index ys (n / 64) in
    omega (
      arith,
      each_bit take_away xs ys zs n a b c refl e,
      bit_at_xor x (bit_and x y) (n % 64),
      bit_at_and x y (n % 64),
      bit_at_xor (value_of xs) (bit_and (value_of xs) (value_of ys)) n,
      bit_at_and (value_of xs) (value_of ys) n,
      bit_of_word xs n,
      bit_of_word ys n,
      bit_at-lt x (n % 64),
      bit_at-lt y (n % 64),
    ))

-- ---- no letter

pub zero_value : (xs : List ℕ) → ((k : ℕ) → k < length xs → slice_index xs k ≡ 0) → value_of xs ≡ 0
zero_value [] f = refl
zero_value (x ∷ xs) f =
    let here : x ≡ 0 = f zero (omega arith) in
    let rest : value_of xs ≡ 0 = zero_value xs (λ k l. f (suc k) (omega (arith, l))) in
    rw (here, rest) refl

-- a word that isn't 0 has a letter
pub word_has : (xs : List ℕ) (k : ℕ) → k < 16 → slice_index xs k < 2 ^ 64 → (slice_index xs k ≡ 0 → ⊥)
    → (64 * k + trailing_zeros w64 (slice_index xs k) < 1024) × IsTrue
    (on (value_of xs) (64 * k + trailing_zeros w64 (slice_index xs k)))
word_has xs k l fits o =
    let t : ℕ = trailing_zeros w64 (slice_index xs k) in
    let lowest = bit_at-trailing_zeros w64 (slice_index xs k) (omega (arith, o)) fits in
    let n : ℕ = 64 * k + t in
    let q : n / 64 ≡ k = omega (arith, lowest.0) in
    let r : n % 64 ≡ t = omega (arith, lowest.0) in
    let b : bit_at (slice_index xs (n / 64)) (n % 64) ≡ 1 = subst (λ (z : ℕ). bit_at (slice_index xs z) (n % 64) ≡ 1)
    (sym q) (subst (λ (z : ℕ). bit_at (slice_index xs k) z ≡ 1) (sym r) lowest.1) in
    (omega (arith, l, lowest.0), (on_is (value_of xs) n).1 (bit_of_word xs n ∙ b))

-- the test whether a word has a letter
pub none_is : (xs : List ℕ) (o : Option ℕ) (b : Bool) → length xs ≡ 16 → IfSome o
    (λ k. (k < 16) × (slice_index xs k < 2 ^ 64) × ¬ (slice_index xs k ≡ 0))
    → IfNone o ((k : ℕ) → k < 16 → slice_index xs k ≡ 0) → is_some o ≡ not b → (b ≡ (value_of xs == 0))
    × (b ≡ false → HasOne 1024 (value_of xs))
none_is xs (Some k) true len some none e = absurd (cc e)
none_is xs (Some k) false len some none e =
    let h = word_has xs k some.0 some.1 some.2 in
    let n : ℕ = 64 * k + trailing_zeros w64 (slice_index xs k) in (
      elim (cases_Bool (value_of xs == 0)) [
        | inl z ↦ absurd (let w : value_of xs ≡ 0 = grind (arith, nat_tests, z) in
            on_zero n (subst (λ (v : ℕ). IsTrue (on v n)) w h.1))
        | inr z ↦ sym z
      ],
      λ f. (n, h.0, h.1),
    )
none_is xs None true len some none e =
    let z = zero_value xs (λ k l. none k (omega (arith, l, len))) in
    (rw z refl, λ f. absurd (cc f))
none_is xs None false len some none e = absurd (cc e)

-- ---- one letter, and one letter less

pub one_value : (zs : List ℕ) (n v : ℕ) → length zs ≡ 16 → n < 1024 → ((k : ℕ) → slice_index zs k ≡ 0)
    → v ≡ 2 ^ (n % 64) → value_of (slice_set zs (n / 64) v) ≡ 2 ^ n
one_value zs n v len l none e = same_from_bits (value_of (slice_set zs (n / 64) v)) (2 ^ n) (λ m.
    let xs = slice_set zs (n / 64) v in
    elim (cases_eq (m / 64) (n / 64)) [
      | inl s ↦
          let w : slice_index xs (m / 64) ≡ 2 ^ (n % 64) = set_same zs (n / 64) (m / 64) v (omega (arith, len, l)) s
          ∙ e in
          let b : bit_at (value_of xs) m ≡ bit_at (2 ^ (n % 64)) (m % 64) = bit_of_word xs m
          ∙ ap (λ (z : ℕ). bit_at z (m % 64)) w in
          elim (cases_eq (m % 64) (n % 64)) [
            | inl t ↦
                let same : m ≡ n = omega (arith, s, t) in
                b ∙ subst (λ (z : ℕ). bit_at (2 ^ (n % 64)) z ≡ 1) (sym t) (bit_at-pow_same (n % 64))
                ∙ sym (subst (λ (z : ℕ). bit_at (2 ^ n) z ≡ 1) (sym same) (bit_at-pow_same n))
            | inr o ↦ b ∙ bit_at-pow_other (n % 64) (m % 64) o ∙ sym
                (bit_at-pow_other n m (λ z. o (ap (λ (y : ℕ). y % 64) z)))
          ]
      | inr o ↦
          let w : slice_index xs (m / 64) ≡ 0 = set_other zs (n / 64) (m / 64) v o ∙ none (m / 64) in
          bit_of_word xs m ∙ ap (λ (z : ℕ). bit_at z (m % 64)) w ∙ bit_at-zero (m % 64)
          ∙ sym (bit_at-pow_other n m (λ z. o (ap (λ (y : ℕ). y / 64) z)))
    ])

value_less : (xs : List ℕ) (k y : ℕ) → k < length xs → bit_and y (2 ^ 64 - 1) < bit_and (slice_index xs k) (2 ^ 64 - 1)
    → value_of (slice_set xs k y) < value_of xs
value_less [] k y l h = absurd (omega (arith, l))
value_less (x ∷ xs) zero y l h = omega (arith, h)
value_less (x ∷ xs) (suc k) y l h =
    let rest = value_less xs k y (omega (arith, l)) h in
    omega (arith, rest)

whole : (x : ℕ) → x < 2 ^ 64 → bit_and x (2 ^ 64 - 1) ≡ x
whole x l = same_from_bits (bit_and x (2 ^ 64 - 1)) x (λ i. elim (cases_lt i 64) [
  | inl s ↦ masked x i s
  | inr g ↦ bit_at_above (bit_and x (2 ^ 64 - 1)) 64 i (small x) g ∙ sym (bit_at_above x 64 i l g)
])

pub less_one : (xs : List ℕ) (n y : ℕ) → length xs ≡ 16 → n < 1024 → slice_index xs (n / 64) < 2 ^ 64
    → IsTrue (on (value_of xs) n) → y ≡ bit_and (slice_index xs (n / 64)) (bit_not w64 (1 * 2 ^ (n % 64) % 2 ^ 64))
    → IsWithout (value_of xs) n (value_of (slice_set xs (n / 64) y))
less_one xs n y len l fits has e =
    let x : ℕ = slice_index xs (n / 64) in
    let inside : n / 64 < length xs = omega (arith, len, l) in
    let bit : IsTrue (on x (n % 64)) = (on_is x (n % 64)).1 (sym (bit_of_word xs n) ∙ (on_is (value_of xs) n).0 has) in
    let w : IsWithout x (n % 64) y = subst (IsWithout x (n % 64)) (sym e)
    (without_is x (n % 64) fits (omega arith) bit) in
    let zs = slice_set xs (n / 64) y in
    let same : (m : ℕ) → m / 64 ≡ n / 64 → slice_index zs (m / 64) ≡ y = λ m s. set_same xs (n / 64) (m / 64) y inside
    s in
    let other : (m : ℕ) → (m / 64 ≡ n / 64 → ⊥) → slice_index zs (m / 64) ≡ slice_index xs (m / 64) =
    λ m o. set_other xs (n / 64) (m / 64) y o in
    record {
      less = value_less xs (n / 64) y inside (omega (
        arith,
        w.less,
        whole x fits,
        whole y (omega (arith, w.less, fits)),
      ));
      others = λ m. elim (cases_eq (m / 64) (n / 64)) [
        | inl s ↦
            let old : bit_at (value_of xs) m ≡ bit_at x (m % 64) = bit_of_word xs m
            ∙ ap (λ (z : ℕ). bit_at (slice_index xs z) (m % 64)) s in
            let new : bit_at (value_of zs) m ≡ bit_at y (m % 64) = bit_of_word zs m
            ∙ ap (λ (z : ℕ). bit_at z (m % 64)) (same m s) in (
              λ h.
                  let z = (w.others (m % 64)).0 ((on_is y (m % 64)).1 (sym new ∙ (on_is (value_of zs) m).0 h)) in
                  ((on_is (value_of xs) m).1 (old ∙ (on_is x (m % 64)).0 z.0), λ q. z.1 (ap (λ (v : ℕ). v % 64) q)),
              λ h.
                  let z = (w.others (m % 64)).1 (
                    (on_is x (m % 64)).1 (sym old ∙ (on_is (value_of xs) m).0 h.0),
                    λ q. h.1 (omega (arith, q, s)),
                  ) in
                  (on_is (value_of zs) m).1 (new ∙ (on_is y (m % 64)).0 z),
            )
        | inr o ↦
            let both : bit_at (value_of zs) m ≡ bit_at (value_of xs) m = bit_of_word zs m
            ∙ ap (λ (z : ℕ). bit_at z (m % 64)) (other m o) ∙ sym (bit_of_word xs m) in (
              λ h. (
                (on_is (value_of xs) m).1 (sym both ∙ (on_is (value_of zs) m).0 h),
                λ q. o (ap (λ (v : ℕ). v / 64) q),
              ),
              λ h. (on_is (value_of zs) m).1 (both ∙ (on_is (value_of xs) m).0 h.0),
            )
      ];
    }

pub power_fits : (k : ℕ) → k < 64 → 1 * 2 ^ k % 2 ^ 64 ≡ 2 ^ k
power_fits k l = same_from_bits (1 * 2 ^ k % 2 ^ 64) (2 ^ k) (λ i. elim (cases_eq i k) [
  | inl e ↦ omega (
    arith,
    ap (λ (z : ℕ). bit_at (2 ^ k) z) e,
    ap (λ (z : ℕ). bit_at (1 * 2 ^ k % 2 ^ 64) z) e,
    bit_at_set_same w64 0 k l,
    bit_at_or 0 (1 * 2 ^ k % 2 ^ 64) k,
    bit_at-zero k,
    bit_at-pow_same k,
  )
  | inr o ↦ omega (
    arith,
    bit_at_set_other w64 0 k l i o,
    bit_at_or 0 (1 * 2 ^ k % 2 ^ 64) i,
    bit_at-zero i,
    bit_at-pow_other k i o,
  )
])

pub no_words : (n k : ℕ) → slice_index (replicate n 0) k ≡ 0
no_words zero k = refl
no_words (suc n) zero = refl
no_words (suc n) (suc k) = no_words n k
