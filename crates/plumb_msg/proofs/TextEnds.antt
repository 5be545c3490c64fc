-- Fronts of UTF-8 that go on to a text.
use Rattle.std.proofs.Common.{◌≡◌, ℕ, zero, suc, ◌+◌, ◌-◌, ◌*◌, ◌/◌, ◌<◌, ◌≤◌, ◌⊎◌, inl, inr, true, false, cond, ◌||◌}
use Rattle.std.proofs.Common.{leb, List, [], ◌∷◌, ◌++◌, length, take, drop, refl, ap, sym, ◌∙◌, append_assoc, arith}
use Rattle.std.proofs.Common.{lt-ltb, le-ltb, le-leb, eq-eqb, ne_eqb}
use Rattle.std.specs.Str.{IsUtf8, is_utf8}
use Rattle.std.specs.Int.{is_in_range}
use Rattle.std.specs.Str.Lossy.{valid_len_up_to, utf8_valid_len, second_byte_min, second_byte_max}
use Rattle.std.proofs.lemmas.Bool.{cases_lt, cases_eq, and_parts, false≢true, leb-true}
use Rattle.std.proofs.lemmas.List.{append-nil, take-append-drop}
use Rattle.std.proofs.lemmas.Str.{IsUtf8-append, IsUtf8-nil, IsUtf8-from_is_utf8, is_utf8-from_IsUtf8}
use lib.Utf8.{scalar, encode, next, low_scalar}
use Rattle.am_text.specs.Utf8.{is_later}
use Rattle.am_text.specs.Pieces.{is_begun}
use Rattle.plumb_msg.specs.Texts.{is_text_front}

-- ---- whole characters, from their bytes

two : (c : ℕ) → 128 ≤ c → c < 2048 → encode c ≡ (192 + c / 64) ∷ next c ∷ []
unfolding encode
two c l h = rw (le-ltb c 128 l, lt-ltb c 2048 h)

three : (c : ℕ) → 2048 ≤ c → c < 65536 → encode c ≡ (224 + c / 4096) ∷ next (c / 64) ∷ next c ∷ []
unfolding encode
three c l h = rw (le-ltb c 128 (omega arith), le-ltb c 2048 l, lt-ltb c 65536 h)

four : (c : ℕ) → 65536 ≤ c → encode c ≡ (240 + c / 262144) ∷ next (c / 4096) ∷ next (c / 64) ∷ next c ∷ []
unfolding encode
four c l = rw (le-ltb c 128 (omega arith), le-ltb c 2048 (omega arith), le-ltb c 65536 l)

high_scalar : (c : ℕ) → 57344 ≤ c → c < 1114112 → scalar c ≡ true
high_scalar c l h = rw (le-ltb c 55296 (omega arith), le-leb 57344 c l, lt-ltb c 1114112 h)

abbrev IsLater : ℕ → Type 0
IsLater b = (128 ≤ b) × (b ≤ 191)

one_char : (c : ℕ) (bs : List ℕ) → scalar c ≡ true → encode c ≡ bs → IsUtf8 bs
one_char c bs s e = (c ∷ [], (rw s refl, append-nil (encode c) ∙ e))

bounds : (lo hi b : ℕ) → is_in_range lo hi b ≡ true → (lo ≤ b) × (b ≤ hi)
bounds lo hi b e = let p = and_parts (leb lo b) (leb b hi) e in (leb-true lo b p.0, leb-true b hi p.1)

-- the least and the greatest second byte, by the first
least_is : (a : ℕ) → ((a ≡ 0xe0) × (second_byte_min a ≡ 0xa0)) ⊎ (((a ≡ 0xf0) × (second_byte_min a ≡ 0x90))
    ⊎ ((a ≡ 0xe0 → ⊥) × (a ≡ 0xf0 → ⊥) × (second_byte_min a ≡ 0x80)))
least_is a =
    elim (cases_eq a 0xe0) [
      | inl e ↦ inl (e, rw (eq-eqb a 0xe0 e))
      | inr n ↦ elim (cases_eq a 0xf0) [
        | inl e ↦ inr (inl (e, rw (ne_eqb a 0xe0 n, eq-eqb a 0xf0 e)))
        | inr m ↦ inr
            (inr (n, m, rw (ne_eqb a 0xe0 n, ne_eqb a 0xf0 m)))
      ]
    ]

most_is : (a : ℕ) → ((a ≡ 0xed) × (second_byte_max a ≡ 0x9f)) ⊎ (((a ≡ 0xf4) × (second_byte_max a ≡ 0x8f))
    ⊎ ((a ≡ 0xed → ⊥) × (a ≡ 0xf4 → ⊥) × (second_byte_max a ≡ 0xbf)))
most_is a =
    elim (cases_eq a 0xed) [
      | inl e ↦ inl (e, rw (eq-eqb a 0xed e))
      | inr n ↦ elim (cases_eq a 0xf4) [
        | inl e ↦ inr (inl (e, rw (ne_eqb a 0xed n, eq-eqb a 0xf4 e)))
        | inr m ↦ inr
            (inr (n, m, rw (ne_eqb a 0xed n, ne_eqb a 0xf4 m)))
      ]
    ]

abbrev IsSecond : ℕ → ℕ → Type 0
IsSecond a b = (second_byte_min a ≤ b) × (b ≤ second_byte_max a)

second_is : (a b : ℕ) → IsSecond a b → IsLater b
second_is a b h = (omega (arith, h, least_is a), omega (arith, h, most_is a))

two_bytes : (a b : ℕ) → (0xc2 ≤ a) × (a < 0xe0) → IsLater b → IsUtf8 (a ∷ b ∷ [])
two_bytes a b h f =
    let c = (a - 192) * 64 + (b - 128) in
    let p : 192 + c / 64 ≡ a = omega arith in
    let q : next c ≡ b = omega arith in
    one_char c (a ∷ b ∷ []) (low_scalar c (omega arith)) (two c (omega arith) (omega arith) ∙ (λ k. p k ∷ q k ∷ []))

three_parts : (x y z : ℕ) → 224 ≤ x → IsLater y → IsLater z
    → let c = (x - 224) * 4096 + (y - 128) * 64 + (z - 128) in (224 + c / 4096 ≡ x) × (next (c / 64) ≡ y) × (next c ≡ z)
three_parts x y z h f g = (omega arith, omega arith, omega arith)

four_parts : (x y z w : ℕ) → 240 ≤ x → IsLater y → IsLater z → IsLater w
    → let c = (x - 240) * 262144 + (y - 128) * 4096 + (z - 128) * 64 + (w - 128) in
    (240 + c / 262144 ≡ x) × (next (c / 4096) ≡ y) × (next (c / 64) ≡ z) × (next c ≡ w)
four_parts x y z w h f g j =
    let e : ((x - 240) * 262144 + (y - 128) * 4096 + (z - 128) * 64 + (w - 128)) / 64 ≡ (x - 240) * 4096 + (y - 128) *
    64 + (z - 128) = omega arith in
    (omega arith, omega arith, rw e (omega arith), omega arith)

three_bytes : (x y z : ℕ) → (0xe0 ≤ x) × (x < 0xf0) → IsSecond x y → IsLater z → IsUtf8 (x ∷ y ∷ z ∷ [])
three_bytes x y z h f g =
    let c = (x - 224) * 4096 + (y - 128) * 64 + (z - 128) in
    let bytes = three_parts x y z h.0 (second_is x y f) g in
    let p = bytes.0 in
    let q = bytes.1 in
    let r = bytes.2 in
    let l = least_is x in
    let m = most_is x in
    let ok : scalar c ≡ true = elim (cases_lt c 55296) [
      | inl a ↦ low_scalar c a
      | inr a ↦ high_scalar c (omega arith)
          (omega arith)
    ] in
    one_char c (x ∷ y ∷ z ∷ []) ok (three c (omega arith) (omega arith) ∙ (λ k. p k ∷ q k ∷ r k ∷ []))

four_bytes : (x y z w : ℕ) → (0xf0 ≤ x) × (x ≤ 0xf4) → IsSecond x y → IsLater z → IsLater w
    → IsUtf8 (x ∷ y ∷ z ∷ w ∷ [])
four_bytes x y z w h f g j =
    let c = (x - 240) * 262144 + (y - 128) * 4096 + (z - 128) * 64 + (w - 128) in
    let bytes = four_parts x y z w h.0 (second_is x y f) g j in
    let p = bytes.0 in
    let q = bytes.1 in
    let r = bytes.2 in
    let t = bytes.3 in
    let l = least_is x in
    let m = most_is x in
    one_char c (x ∷ y ∷ z ∷ w ∷ []) (high_scalar c (omega arith) (omega arith))
    (four c (omega arith) ∙ (λ k. p k ∷ q k ∷ r k ∷ t k ∷ []))

-- ---- what is begun goes on to a character

-- all are at least 128
abbrev pub AreHigh : List ℕ → Type 0
AreHigh [] = Unit {0}
AreHigh (b ∷ bs) = (128 ≤ b) × AreHigh bs

-- the last byte is at least 128
pub record EndsHigh (bs : List ℕ) : Type 0 where
  pub front : List ℕ
  pub last : ℕ
  pub parts : bs ≡ front ++ last ∷ []
  pub high : 128 ≤ last

record Ends (bs : List ℕ) : Type 0 where
  more : List ℕ
  high : AreHigh more
  whole : IsUtf8 (bs ++ more)
  last : EndsHigh bs

later_80 : IsLater 0x80
later_80 = (omega arith, omega arith)

least_second : (a : ℕ) → IsSecond a (second_byte_min a)
least_second a = let l = least_is a in let m = most_is a in (omega arith, omega arith)

least_high : (a : ℕ) → 128 ≤ second_byte_min a
least_high a = omega (arith, least_is a)

begun_ends : (bs : List ℕ) → is_begun bs ≡ true → Ends bs
unfolding is_begun
begun_ends [] e = absurd (false≢true e)
begun_ends (a ∷ []) e =
    let k = bounds 0xC2 0xF4 a e in
    let last : EndsHigh (a ∷ []) = record { front = []; last = a; parts = refl; high = omega (arith, k) } in
    elim (cases_lt a 0xE0) [
      | inl h ↦ record {
        more = 0x80 ∷ [];
        high = (omega arith, tt);
        whole = two_bytes a 0x80 (k.0, h) later_80;
        last =
            last;
      }
      | inr h ↦ elim (cases_lt a 0xF0) [
        | inl i ↦ record {
          more = second_byte_min a ∷ 0x80 ∷ [];
          high = (least_high a, (omega arith, tt));
          whole =
              three_bytes a (second_byte_min a) 0x80 (h, i) (least_second a) later_80;
          last = last;
        }
        | inr i ↦ record {
          more = second_byte_min a ∷ 0x80 ∷ 0x80 ∷ [];
          high =
              (least_high a, (omega arith, (omega arith, tt)));
          whole = four_bytes a (second_byte_min a) 0x80 0x80
              (i, k.1) (least_second a) later_80 later_80;
          last = last;
        }
      ]
    ]
begun_ends (a ∷ b ∷ []) e =
    let p = and_parts (is_in_range 0xE0 0xF4 a) (is_in_range (second_byte_min a) (second_byte_max a) b) e in
    let k = bounds 0xE0 0xF4 a p.0 in
    let s = bounds (second_byte_min a) (second_byte_max a) b p.1 in
    let last : EndsHigh (a ∷ b ∷ []) = record { front = a ∷ []; last = b; parts = refl; high = (second_is a b s).0 } in
    elim (cases_lt a 0xF0) [
      | inl i ↦ record {
        more = 0x80 ∷ [];
        high = (omega arith, tt);
        whole = three_bytes a b 0x80 (k.0, i) s later_80;
        last = last;
      }
      | inr i ↦ record {
        more = 0x80 ∷ 0x80 ∷ [];
        high = (omega arith, (omega arith, tt));
        whole = four_bytes a b 0x80
            0x80 (i, k.1) s later_80 later_80;
        last = last;
      }
    ]
begun_ends (a ∷ b ∷ c ∷ []) e =
    let q = and_parts (is_in_range 0xF0 0xF4 a) (is_in_range (second_byte_min a) (second_byte_max a) b)
    (and_parts _ (is_later c) e).0 in
    let k = bounds 0xF0 0xF4 a q.0 in
    let s = bounds (second_byte_min a) (second_byte_max a) b q.1 in
    let l = bounds 0x80 0xBF c (and_parts _ (is_later c) e).1 in
    record {
      more = 0x80 ∷ [];
      high = (omega arith, tt);
      whole = four_bytes a b c 0x80 k s l later_80;
      last =
          record { front = a ∷ b ∷ []; last = c; parts = refl; high = l.0 };
    }
begun_ends (a ∷ b ∷ c ∷ d ∷ bs) e = absurd (false≢true e)

-- ---- fronts of texts

valid_front : (bs : List ℕ) (m : ℕ) → IsUtf8 (take (valid_len_up_to bs m) bs)
valid_front bs zero = IsUtf8-nil
valid_front bs (suc m) =
    elim (is_utf8 (take (suc m) bs)) as (λ t. is_utf8 (take (suc m) bs) ≡ t →
    IsUtf8 (take (cond t (suc m) (valid_len_up_to bs m)) bs)) [
      | true ↦ λ e. IsUtf8-from_is_utf8 (take (suc m) bs) e
      | false ↦ λ e. valid_front bs m
    ] refl

pub valid : (bs : List ℕ) → IsUtf8 (take (utf8_valid_len bs) bs)
unfolding utf8_valid_len
valid bs = valid_front bs (length bs)

-- how a front goes on to a text: by bytes from 128 on, and with some only where its last byte is such
pub record TextEnd (bs : List ℕ) : Type 0 where
  pub more : List ℕ
  pub high : AreHigh more
  pub whole : is_utf8 (bs ++ more) ≡ true
  pub last : (more ≡ []) ⊎ EndsHigh bs

pub front_ends : (bs : List ℕ) → is_text_front bs ≡ true → TextEnd bs
front_ends bs =
    elim (is_utf8 bs) as (λ t. is_utf8 bs ≡ t → (t || is_begun (drop (utf8_valid_len bs) bs)) ≡ true → TextEnd bs) [
      | true ↦ λ t h. record { more = []; high = tt; whole = ap is_utf8 (append-nil bs) ∙ t; last = inl refl }
      | false ↦ λ t h.
          let front = take (utf8_valid_len bs) bs in
          let rest = drop (utf8_valid_len bs) bs in
          let e = begun_ends rest h in
          let cut : front ++ rest ≡ bs = take-append-drop (utf8_valid_len bs) bs in
          record {
            more = e.more;
            high = e.high;
            whole = ap (λ (l : List ℕ). is_utf8 (l ++ e.more)) (sym cut) ∙ ap is_utf8 (append_assoc front rest e.more)
                ∙ is_utf8-from_IsUtf8 (front ++ (rest ++ e.more)) (IsUtf8-append front (rest ++ e.more) (valid bs)
                e.whole);
            last = inr (record {
              front = front ++ e.last.front;
              last = e.last.last;
              parts = sym cut
                  ∙ ap (λ (l : List ℕ). front ++ l) e.last.parts ∙ sym
                  (append_assoc front e.last.front (e.last.last ∷ []));
              high = e.last.high;
            });
          }
    ] refl
