-- Decoding undoes encoding.
use Rattle.std.proofs.Common.{◌≡◌, ◌⊎◌, ℕ, ◌+◌, ◌/◌, ◌%◌, ◌<◌, ◌≤◌, Bool, true, false, cond, ◌&&◌, eqb, leb, List, []}
use Rattle.std.proofs.Common.{◌∷◌, ◌++◌, length, drop, refl, ap, ◌∙◌, arith, inl, inr}
use Rattle.std.specs.Char.{encode_utf8, IsScalar}
use Rattle.std.specs.Int.{is_in_range}
use Rattle.std.specs.List.{AllByRecursion}
use Rattle.std.specs.Str.Lossy.{second_byte_min, second_byte_max}
use Rattle.std.proofs.lemmas.Bool.{cases_lt, lt-ltb, le-ltb, le-leb, lt-leb, eqb-true}
use lib.Utf8.{scalar_cases}
use Rattle.am_text.specs.Utf8.{front_rune, front_width, decode, utf8}
use Rattle.am_text.proofs.Decoded.{decode-front, decode-nil}

inside : (lo hi b : ℕ) → lo ≤ b → b ≤ hi → is_in_range lo hi b ≡ true
inside lo hi b h k = rw (le-leb lo b h, le-leb b hi k) refl

below : (lo hi b : ℕ) → b < lo → is_in_range lo hi b ≡ false
below lo hi b h = rw (lt-leb lo b h) refl

not_both : (x : Bool) → (x && false) ≡ false
not_both true = refl
not_both false = refl

above : (lo hi b : ℕ) → hi < b → is_in_range lo hi b ≡ false
above lo hi b h = rw (lt-leb b hi h) (not_both (leb lo b))

least : (a b : ℕ) → 0x80 ≤ b → (a ≡ 0xE0 → 0xA0 ≤ b) → (a ≡ 0xF0 → 0x90 ≤ b) → second_byte_min a ≤ b
least a b h e f =
    elim (eqb a 0xE0) as (λ t. eqb a 0xE0 ≡ t → cond t 0xA0 (cond (eqb a 0xF0) 0x90 0x80) ≤ b) [
      | true ↦ λ i. e (eqb-true a 0xE0 i)
      | false ↦ λ i. elim (eqb a 0xF0) as (λ t. eqb a 0xF0 ≡ t → cond t 0x90 0x80 ≤ b)
          [ true ↦ λ j. f (eqb-true a 0xF0 j) | false ↦ λ j. h ] refl
    ] refl

most : (a b : ℕ) → b ≤ 0xBF → (a ≡ 0xED → b ≤ 0x9F) → (a ≡ 0xF4 → b ≤ 0x8F) → b ≤ second_byte_max a
most a b h e f =
    elim (eqb a 0xED) as (λ t. eqb a 0xED ≡ t → b ≤ cond t 0x9F (cond (eqb a 0xF4) 0x8F 0xBF)) [
      | true ↦ λ i. e (eqb-true a 0xED i)
      | false ↦ λ i. elim (eqb a 0xF4) as (λ t. eqb a 0xF4 ≡ t → b ≤ cond t 0x8F 0xBF)
          [ true ↦ λ j. f (eqb-true a 0xF4 j) | false ↦ λ j. h ] refl
    ] refl

-- the front of the bytes is this rune, and these bytes follow
record Begins (bs : List ℕ) (c : ℕ) (rest : List ℕ) : Type 0 where
  some : 0 < length bs
  width : 0 < front_width bs
  rune : front_rune bs ≡ c
  after : drop (front_width bs) bs ≡ rest

one : (c : ℕ) (rest : List ℕ) → c < 128 → Begins (c ∷ rest) c rest
unfolding front_rune front_width
one c rest h =
    let two = below 0xC2 0xDF c (omega arith) in
    let three = below 0xE0 0xEF c (omega arith) in
    let four = below 0xF0 0xF4 c (omega arith) in
    record {
      some = omega arith;
      width = rw (two, three, four) (omega arith);
      rune = rw (two, three, four, lt-ltb c 128 h) refl;
      after = rw (two, three, four) refl;
    }

two : (c : ℕ) (rest : List ℕ) → 128 ≤ c → c < 2048 → Begins ((192 + c / 64) ∷ (128 + c % 64) ∷ rest) c rest
unfolding front_rune front_width
two c rest low high =
    let a = inside 0xC2 0xDF (192 + c / 64) (omega arith) (omega arith) in
    let b = inside 0x80 0xBF (128 + c % 64) (omega arith) (omega arith) in
    record {
      some = omega arith;
      width = rw (a, b) (omega arith);
      rune = rw (a, b) (omega arith);
      after = rw (a, b) refl;
    }

three : (c : ℕ) (rest : List ℕ) → 2048 ≤ c → c < 65536 → (c < 55296) ⊎ (57344 ≤ c)
    → Begins ((224 + c / 4096) ∷ (128 + c / 64 % 64) ∷ (128 + c % 64) ∷ rest) c rest
unfolding front_rune front_width
three c rest low high s =
    let a = 224 + c / 4096 in
    let b = 128 + c / 64 % 64 in
    let no_two = above 0xC2 0xDF a (omega arith) in
    let first = inside 0xE0 0xEF a (omega arith) (omega arith) in
    let apart : a ≡ 0xED → b ≤ 0x9F = λ e. elim s [ inl x ↦ omega arith | inr x ↦ omega arith ] in
    let second = inside (second_byte_min a) (second_byte_max a) b (least a b (omega arith) (λ e. omega arith)
    (λ e. omega arith)) (most a b (omega arith) apart (λ e. omega arith)) in
    let third = inside 0x80 0xBF (128 + c % 64) (omega arith) (omega arith) in
    record {
      some = omega arith;
      width = rw (no_two, first, second, third) (omega arith);
      rune = rw (no_two, first, second, third) (omega arith);
      after = rw (no_two, first, second, third) refl;
    }

four : (c : ℕ) (rest : List ℕ) → 65536 ≤ c → c < 1114112 → Begins ((240 + c / 262144) ∷ (128 + c / 4096 % 64)
    ∷ (128 + c / 64 % 64) ∷ (128 + c % 64) ∷ rest) c rest
unfolding front_rune front_width
four c rest low high =
    let a = 240 + c / 262144 in
    let b = 128 + c / 4096 % 64 in
    let no_two = above 0xC2 0xDF a (omega arith) in
    let no_three = above 0xE0 0xEF a (omega arith) in
    let first = inside 0xF0 0xF4 a (omega arith) (omega arith) in
    let second = inside (second_byte_min a) (second_byte_max a) b (least a b (omega arith) (λ e. omega arith)
    (λ e. omega arith)) (most a b (omega arith) (λ e. omega arith) (λ e. omega arith)) in
    let third = inside 0x80 0xBF (128 + c / 64 % 64) (omega arith) (omega arith) in
    let fourth = inside 0x80 0xBF (128 + c % 64) (omega arith) (omega arith) in
    record {
      some = omega arith;
      width = rw (no_two, no_three, first, second, third, fourth) (omega arith);
      rune = rw (no_two, no_three, first, second, third, fourth) (omega arith);
      after = rw (no_two, no_three, first, second, third, fourth) refl;
    }

begins : (c : ℕ) (rest : List ℕ) → IsScalar c → Begins (encode_utf8 c ++ rest) c rest
unfolding encode_utf8
begins c rest s =
    let t = scalar_cases c s in
    let wide : c < 1114112 = elim t [ inl x ↦ omega arith | inr x ↦ omega arith ] in
    let apart : (c < 55296) ⊎ (57344 ≤ c) = elim t [ inl x ↦ inl x | inr x ↦ inr x.0 ] in
    elim (cases_lt c 128) [
      | inl h ↦ rw (lt-ltb c 128 h) (one c rest h)
      | inr h ↦ elim (cases_lt c 2048) [
        | inl k ↦ rw (le-ltb c 128 h, lt-ltb c 2048 k) (two c rest h k)
        | inr k ↦ elim (cases_lt c 65536) [
          | inl m ↦ rw (le-ltb c 128 h, le-ltb c 2048 k, lt-ltb c 65536 m) (three c rest k m apart)
          | inr m ↦ rw (le-ltb c 128 h, le-ltb c 2048 k, le-ltb c 65536 m) (four c rest m wide)
        ]
      ]
    ]

pub decode-encode : (c : ℕ) (rest : List ℕ) → IsScalar c → decode (encode_utf8 c ++ rest) ≡ c ∷ decode rest
decode-encode c rest s =
    let b = begins c rest s in
    decode-front (encode_utf8 c ++ rest) b.some b.width ∙ rw (b.rune, b.after) refl

-- what was encoded is decoded again
pub decode_encode_all : (cs : List ℕ) → AllByRecursion IsScalar cs → decode (utf8 cs) ≡ cs
decode_encode_all [] s = decode-nil [] refl
decode_encode_all (c ∷ cs) s =
    ap (λ (t : Bool). decode (cond t (encode_utf8 c) (encode_utf8 0xFFFD) ++ utf8 cs)) s.0
    ∙ decode-encode c (utf8 cs) s.0 ∙ ap (λ (l : List ℕ). c ∷ l) (decode_encode_all cs s.1)
