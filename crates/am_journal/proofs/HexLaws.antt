-- Hexadecimal: reading and writing undo each other.
use Rattle.std.proofs.Common.{◌≡◌, ℕ, ◌+◌, ◌-◌, ◌*◌, ◌/◌, ◌%◌, ◌<◌, ◌≤◌, Bool, true, false, cond, ◌&&◌, leb, List, []}
use Rattle.std.proofs.Common.{◌∷◌, Option, Some, None, refl, ap, sym, subst, ◌∙◌, arith, inl, inr, suc, zero}
use Rattle.std.specs.Int.{is_in_range}
use Rattle.std.proofs.lemmas.Bool.{cases_lt, lt-ltb, le-ltb, le-leb, lt-leb, leb-true}
use Rattle.am_journal.specs.Hexadecimal.{hex_digit, hex_of, digit_value, pair_value, byte_at, then_bytes, bytes_of_hex}
use Rattle.am_journal.specs.Lawful.{AreBytes}

-- ---- what is written is read

inside : (lo hi b : ℕ) → lo ≤ b → b ≤ hi → is_in_range lo hi b ≡ true
inside lo hi b h k = rw (le-leb lo b h, le-leb b hi k) refl

not_both : (x : Bool) → (x && false) ≡ false
not_both true = refl
not_both false = refl

above : (lo hi b : ℕ) → hi < b → is_in_range lo hi b ≡ false
above lo hi b h = rw (lt-leb b hi h) (not_both (leb lo b))

digit-again : (n : ℕ) → n < 16 → digit_value (hex_digit n) ≡ Some n
digit-again n h =
    elim (cases_lt n 10) [
      | inl k ↦ rw (lt-ltb n 10 k, inside 48 57 (48 + n) (omega arith) (omega arith))
          (ap (λ (x : ℕ). Some x) (omega arith))
      | inr k ↦ rw (
        le-ltb n 10 k,
        above 48 57 (87 + n) (omega arith),
        inside 97 102 (87 + n) (omega arith) (omega arith),
      ) (ap (λ (x : ℕ). Some x) (omega arith))
    ]

byte-again : (b : ℕ) → b < 256 → byte_at (hex_digit (b / 16)) (hex_digit (b % 16)) ≡ Some b
byte-again b h = rw (digit-again (b / 16) (omega arith), digit-again (b % 16) (omega arith))
    (ap (λ (x : ℕ). Some x) (omega arith))

pub hex-again : (bs : List ℕ) → AreBytes bs → bytes_of_hex (hex_of bs) ≡ Some bs
unfolding bytes_of_hex hex_of
hex-again [] h = refl
hex-again (b ∷ bs) h = rw (byte-again b (h 0), hex-again bs (λ i. h (suc i))) refl

-- ---- what is read was written so

both : (a b : Bool) → (a && b) ≡ true → (a ≡ true) × (b ≡ true)
both true b e = (refl, e)
both false b e = absurd cc

within : (lo hi b : ℕ) → is_in_range lo hi b ≡ true → (lo ≤ b) × (b ≤ hi)
within lo hi b e = let p = both (leb lo b) (leb b hi) e in (leb-true lo b p.0, leb-true b hi p.1)

-- the digit of a value
abbrev Digit : ℕ → ℕ → Type 0
Digit b n = (n < 16) × (hex_digit n ≡ b)

small_digit : (b n : ℕ) → 48 ≤ b → b ≤ 57 → b - 48 ≡ n → Digit b n
small_digit b n low high e = (omega (arith, e), rw (lt-ltb n 10 (omega (arith, e))) (omega (arith, e)))

large_digit : (b n : ℕ) → 97 ≤ b → b ≤ 102 → b - 87 ≡ n → Digit b n
large_digit b n low high e = (omega (arith, e), rw (le-ltb n 10 (omega (arith, e))) (omega (arith, e)))

some_is : (a b : ℕ) → Some a ≡ Some b → a ≡ b
some_is a b e = cc

digit-is : (b n : ℕ) → digit_value b ≡ Some n → Digit b n
digit-is b n =
    elim (is_in_range 48 57 b) as (λ t. is_in_range 48 57 b ≡ t → cond t (Some (b - 48))
    (cond (is_in_range 97 102 b) (Some (b - 87)) None) ≡ Some n → Digit b n) [
      | true ↦ λ t e. let w = within 48 57 b t in small_digit b n w.0 w.1 (some_is (b - 48) n e)
      | false ↦ λ t. elim (is_in_range 97 102 b) as (λ u. is_in_range 97 102 b ≡ u → cond u (Some (b - 87))
          None ≡ Some n → Digit b n) [
            | true ↦ λ u e. let w = within 97 102 b u in large_digit b n w.0 w.1 (some_is (b - 87) n e)
            | false ↦ λ u e. absurd cc
          ] refl
    ] refl

-- the two digits of a byte
abbrev Pair : ℕ → ℕ → ℕ → Type 0
Pair a b x = (x < 256) × (hex_digit (x / 16) ≡ a) × (hex_digit (x % 16) ≡ b)

joined : (a b high low x : ℕ) → Digit a high → Digit b low → high * 16 + low ≡ x → Pair a b x
joined a b high low x p q e =
    let h : x / 16 ≡ high = omega (arith, e, p.0, q.0) in
    let l : x % 16 ≡ low = omega (arith, e, p.0, q.0) in
    (omega (arith, e, p.0, q.0), ap hex_digit h ∙ p.1, ap hex_digit l ∙ q.1)

byte-is : (a b x : ℕ) → byte_at a b ≡ Some x → Pair a b x
byte-is a b x = pair (digit_value a) (digit_value b) refl refl
  where
    pair : (high low : Option ℕ) → digit_value a ≡ high → digit_value b ≡ low → pair_value high low ≡ Some x
        → Pair a b x
    pair None low h l e = absurd cc
    pair (Some n) None h l e = absurd cc
    pair (Some n) (Some m) h l e = joined a b n m x (digit-is a n h) (digit-is b m l) (some_is (n * 16 + m) x e)

-- the bytes of a first pair, and of the others
record Then (o : Option ℕ) (r : Option (List ℕ)) (bs : List ℕ) : Type 0 where
  first : ℕ
  others : List ℕ
  first-is : o ≡ Some first
  others-is : r ≡ Some others
  whole : first ∷ others ≡ bs

then_some : (o : Option ℕ) (r : Option (List ℕ)) (bs : List ℕ) → then_bytes o r ≡ Some bs → Then o r bs
then_some None r bs e = absurd cc
then_some (Some b) None bs e = absurd cc
then_some (Some b) (Some rest) bs e = record { first = b; others = rest; first-is = refl; others-is = refl; whole = cc }

AreBytes-cons : (b : ℕ) (bs : List ℕ) → b < 256 → AreBytes bs → AreBytes (b ∷ bs)
AreBytes-cons b bs h k zero = h
AreBytes-cons b bs h k (suc i) = k i

abbrev Spelled : List ℕ → List ℕ → Type 0
Spelled text bs = (text ≡ hex_of bs) × AreBytes bs

spelled_cons : (a b x : ℕ) (rest others bs : List ℕ) → Pair a b x → Spelled rest others
    → x ∷ others ≡ bs → Spelled (a ∷ b ∷ rest) bs
unfolding hex_of
spelled_cons a b x rest others bs p s e =
    subst (Spelled (a ∷ b ∷ rest)) e (
      ap (λ (l : List ℕ). a ∷ b ∷ l) s.0 ∙ ap (λ (d : ℕ). a ∷ d ∷ hex_of others) (sym p.2)
          ∙ ap (λ (d : ℕ). d ∷ hex_digit (x % 16) ∷ hex_of others) (sym p.1),
      AreBytes-cons x others p.0 s.1,
    )

list_is : (a b : List ℕ) → Some a ≡ Some b → a ≡ b
list_is a b e = cc

no_bytes : AreBytes []
no_bytes i = omega arith

pub hex-is : (text bs : List ℕ) → bytes_of_hex text ≡ Some bs → Spelled text bs
unfolding bytes_of_hex hex_of
hex-is [] bs e = subst (Spelled []) (list_is [] bs e) (refl, no_bytes)
hex-is (a ∷ []) bs e = absurd cc
hex-is (a ∷ b ∷ rest) bs e =
    let t = then_some (byte_at a b) (bytes_of_hex rest) bs e in
    spelled_cons a b t.first rest t.others bs (byte-is a b t.first t.first-is) (hex-is rest t.others t.others-is)
    t.whole
