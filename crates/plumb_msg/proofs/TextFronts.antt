-- Fronts of UTF-8: bytes that begin a text are told by the test of fronts.
use Rattle.std.proofs.Common.{◌≡◌, ◌⊎◌, inl, inr, ℕ, ◌+◌, ◌-◌, ◌<◌, ◌≤◌, suc, zero, Bool, true, false, cond, ◌||◌, List}
use Rattle.std.proofs.Common.{[], ◌∷◌, ◌++◌, length, take, drop, refl, ap, sym, subst, ◌∙◌, append_assoc, arith}
use Rattle.std.proofs.Common.{length-append, length-drop}
use Rattle.std.specs.Str.{IsUtf8, IsValidUpTo, is_utf8}
use Rattle.std.specs.Char.{encode_utf8}
use Rattle.std.specs.Str.Lossy.{utf8_valid_len}
use Rattle.std.proofs.lemmas.Bool.{cases_lt, and_parts, false≢true}
use Rattle.std.proofs.lemmas.List.{append-nil, nil_from_length, take-append-drop}
use Rattle.std.proofs.lemmas.Str.{IsUtf8-append, IsUtf8-nil, IsUtf8-encode, IsUtf8-from_is_utf8, is_utf8-from_IsUtf8}
use Rattle.std.proofs.lemmas.Str.{encode_same, length-encode, len_utf8_bounds, utf8_valid_len-IsValidUpTo}
use Rattle.std.proofs.Math.Seq.{take-append_seam, drop-append_seam, take-append-add}
use lib.Utf8.{scalar, scalars, encodes}
use Rattle.am_text.specs.Utf8.{front_width, decode, begins_two, begins_three, begins_four, utf8}
use Rattle.am_text.specs.Pieces.{is_begun, rest_of, whole_of, Decoded}
use Rattle.am_text.proofs.Decoded.{decode-front, decode-nil}
use Rattle.am_text.proofs.Encoded.{decode-encode}
use Rattle.am_text.proofs.Pieced.{whole-append-rest, rest-append, text-append, leaves_none}
use Rattle.plumb_msg.specs.Texts.{is_text_front}

-- ---- characters

encode_some : (c : ℕ) → 0 < length (encode_utf8 c)
encode_some c = omega (arith, length-encode c, len_utf8_bounds c)

-- a text after a text
pub cancel : (cs : List ℕ) (b : List ℕ) → IsUtf8 (encodes cs ++ b) → IsUtf8 b
cancel [] b u = u
cancel (c ∷ cs) b u = after (cancel cs b) u.0 u.1.0 (u.1.1 ∙ append_assoc (encode_utf8 c) (encodes cs) b)
  where
    after : (IsUtf8 (encodes cs ++ b) → IsUtf8 b) → (ds : List ℕ) → scalars ds ≡ true → encodes ds ≡ encode_utf8 c
        ++ (encodes cs ++ b) → IsUtf8 b
    after go [] s e = absurd (omega (
      arith,
      encode_some c,
      length-append (encode_utf8 c) (encodes cs ++ b),
      ap (λ (l : List ℕ). length l) e,
    ))
    after go (d ∷ ds) s e = go (
      ds,
      (
        (and_parts (scalar d) (scalars ds) s).1,
        (encode_same d c (encodes ds) (encodes cs ++ b) e).1,
      ),
    )

-- two ways to cut a list
cut_same : (a b c d : List ℕ) → a ++ b ≡ c ++ d → length a ≤ length c → (c ≡ a ++ drop (length a) c)
    × (b ≡ drop (length a) c ++ d)
cut_same [] b c d e h = (refl, e)
cut_same (x ∷ a) b [] d e h = absurd (omega arith)
cut_same (x ∷ a) b (y ∷ c) d e h =
    let r = cut_same a b c d (tails x y (a ++ b) (c ++ d) e) (omega arith) in
    (ap (λ (z : ℕ). z ∷ c) (sym (heads x y (a ++ b) (c ++ d) e)) ∙ ap (λ (l : List ℕ). x ∷ l) r.0, r.1)
  where
    heads : (x y : ℕ) (l m : List ℕ) → x ∷ l ≡ y ∷ m → x ≡ y
    heads x y l m e = cc

    tails : (x y : ℕ) (l m : List ℕ) → x ∷ l ≡ y ∷ m → l ≡ m
    tails x y l m e = cc

-- ---- a proper front of a character is begun

width_some : (bs : List ℕ) → 0 < front_width bs
unfolding front_width
width_some bs = of (begins_two bs) (begins_three bs) (begins_four bs)
  where
    of : (t u v : Bool) → 0 < cond t 2 (cond u 3 (cond v 4 1))
    of true u v = omega arith
    of false true v = omega arith
    of false false true = omega arith
    of false false false = omega arith

decode_none : (bs : List ℕ) → length (decode bs) ≡ 0 → bs ≡ []
decode_none [] e = refl
decode_none (b ∷ bs) e = absurd (omega (
  arith,
  e,
  ap (λ (l : List ℕ). length l)
      (decode-front (b ∷ bs) (omega arith) (width_some (b ∷ bs))),
))

rest_begun : (bs : List ℕ) → 0 < length (rest_of bs) → is_begun (rest_of bs) ≡ true
unfolding rest_of
rest_begun [] = λ h. absurd (omega arith)
rest_begun (b ∷ bs) =
    elim (is_begun (b ∷ bs)) as (λ t. is_begun (b ∷ bs) ≡ t → 0 < length (cond t (b ∷ bs) (rest_of bs))
    → is_begun (cond t (b ∷ bs) (rest_of bs)) ≡ true) [
      | true ↦ λ e h. e
      | false ↦ λ e h. rest_begun bs h
    ] refl

-- of a whole character nothing is left over
rest-encode : (c : ℕ) → scalar c ≡ true → rest_of (encode_utf8 c) ≡ []
rest-encode c s =
    let one : utf8 (c ∷ []) ≡ encode_utf8 c = ap (λ (t : Bool). cond t (encode_utf8 c) (encode_utf8 0xFFFD) ++ []) s
    ∙ append-nil (encode_utf8 c) in
    ap rest_of (sym one) ∙ ap (λ (d : Decoded). d.rest) (leaves_none (c ∷ []) (s, tt))

front_begun : (c : ℕ) (l more : List ℕ) → scalar c ≡ true → encode_utf8 c ≡ l ++ more → 0 < length l → 0 < length more
    → is_begun l ≡ true
front_begun c l more s e some left =
    let none : rest_of (rest_of l ++ more) ≡ [] = sym (rest-append l more) ∙ ap rest_of (sym e) ∙ rest-encode c s in
    let whole : whole_of (encode_utf8 c) ≡ encode_utf8 c = sym (append-nil (whole_of (encode_utf8 c)))
    ∙ ap (λ (r : List ℕ). whole_of (encode_utf8 c) ++ r) (sym (rest-encode c s))
    ∙ whole-append-rest (encode_utf8 c) in
    let one : decode (encode_utf8 c) ≡ c ∷ [] = ap decode (sym (append-nil (encode_utf8 c))) ∙ decode-encode c [] s
    ∙ ap (λ (r : List ℕ). c ∷ r) (decode-nil [] refl) in
    let parts : decode (whole_of l) ++ decode (whole_of (rest_of l ++ more)) ≡ c ∷ [] = sym (text-append l more)
    ∙ ap (λ (r : List ℕ). decode (whole_of r)) (sym e) ∙ ap decode whole ∙ one in
    let counts = length-append (decode (whole_of l)) (decode (whole_of (rest_of l ++ more))) in
    let total = ap (λ (r : List ℕ). length r) parts in
    let all : whole_of (rest_of l ++ more) ≡ rest_of l ++ more = sym (append-nil (whole_of (rest_of l ++ more)))
    ∙ ap (λ (r : List ℕ). whole_of (rest_of l ++ more) ++ r) (sym none) ∙ whole-append-rest (rest_of l ++ more) in
    let not_none : length (decode (whole_of (rest_of l ++ more))) ≡ 0 → ⊥ =
    λ z. omega (
      arith,
      left,
      length-append (rest_of l) more,
      ap (λ (r : List ℕ). length r)
          (sym all ∙ decode_none (whole_of (rest_of l ++ more)) z),
    ) in
    let first : length (decode (whole_of l)) ≡ 0 = omega (arith, counts, total, not_none) in
    let nothing : whole_of l ≡ [] = decode_none (whole_of l) first in
    let rest : rest_of l ≡ l = ap (λ (w : List ℕ). w ++ rest_of l) (sym nothing) ∙ whole-append-rest l in
    ap is_begun (sym rest) ∙ rest_begun l (omega (arith, some, ap (λ (r : List ℕ). length r) rest))

-- ---- a front of a text

-- the bytes are a text and then the begin of a character
pub record Cut (l : List ℕ) : Type 0 where
  pub text : List ℕ
  pub begin : List ℕ
  pub parts : l ≡ text ++ begin
  pub whole : IsUtf8 text
  pub some : 0 < length begin
  pub begun : is_begun begin ≡ true
  pub apart : (a b : List ℕ) → begin ≡ a ++ b → 0 < length a → IsUtf8 a → ⊥

-- no part of a proper front of a character is a text
front_apart : (c : ℕ) (l more : List ℕ) → encode_utf8 c ≡ l ++ more → 0 < length more → (a b : List ℕ)
    → l ≡ a ++ b → 0 < length a → IsUtf8 a → ⊥
front_apart c l more e left a b parts some u = from u.0 u.1.1
  where
    from : (ds : List ℕ) → encodes ds ≡ a → ⊥
    from [] h = omega (arith, some, ap (λ (r : List ℕ). length r) h)
    from (d ∷ ds) h =
        let tail = encodes ds ++ (b ++ more) in
        let spelled : encode_utf8 c ++ [] ≡ encode_utf8 d ++ tail =
        append-nil (encode_utf8 c) ∙ e ∙ ap (λ (r : List ℕ). r ++ more) (parts ∙ ap (λ (r : List ℕ). r ++ b) (sym h))
        ∙ append_assoc (encode_utf8 d ++ encodes ds) b more ∙ append_assoc (encode_utf8 d) (encodes ds) (b ++ more) in
        let nothing = (encode_same c d [] tail spelled).1 in
        omega (
          arith,
          left,
          length-append (encodes ds) (b ++ more),
          length-append b more,
          ap (λ (r : List ℕ). length r) nothing,
        )

cut-first : (c : ℕ) (l : List ℕ) → scalar c ≡ true → IsUtf8 l ⊎ Cut l → IsUtf8 (encode_utf8 c ++ l)
    ⊎ Cut (encode_utf8 c ++ l)
cut-first c l s r =
    elim r [
      | inl u ↦ inl (IsUtf8-append (encode_utf8 c) l (IsUtf8-encode c s) u)
      | inr k ↦ inr (record {
        text = encode_utf8 c ++ k.text;
        begin = k.begin;
        parts = ap (λ (x : List ℕ). encode_utf8 c ++ x) k.parts ∙ sym (append_assoc (encode_utf8 c) k.text k.begin);
        whole = IsUtf8-append (encode_utf8 c) k.text (IsUtf8-encode c s) k.whole;
        some = k.some;
        begun = k.begun;
        apart = k.apart;
      })
    ]

cut-part : (c : ℕ) (l more : List ℕ) → scalar c ≡ true → encode_utf8 c ≡ l ++ more → 0 < length more → IsUtf8 l ⊎ Cut l
cut-part c [] more s e left = inl IsUtf8-nil
cut-part c (b ∷ l) more s e left =
    inr (record {
      text = [];
      begin = b ∷ l;
      parts = refl;
      whole = IsUtf8-nil;
      some = omega arith;
      begun = front_begun c
          (b ∷ l) more s e (omega arith) left;
      apart = front_apart c (b ∷ l) more e left;
    })

cut : (cs : List ℕ) (l more : List ℕ) → scalars cs ≡ true → encodes cs ≡ l ++ more → IsUtf8 l ⊎ Cut l
cut [] l more s e = inl (subst IsUtf8 (sym (nil_from_length l (omega (
  arith,
  length-append l more,
  ap (λ (r : List ℕ). length r) e,
)))) IsUtf8-nil)
cut (c ∷ cs) l more s e =
    let two = and_parts (scalar c) (scalars cs) s in
    elim (cases_lt (length l) (length (encode_utf8 c))) [
      | inl h ↦
          let k = cut_same l more (encode_utf8 c) (encodes cs) (sym e) (omega arith) in
          cut-part c l (drop (length l) (encode_utf8 c)) two.0 k.0
          (omega (arith, length-drop (length l) (encode_utf8 c)))
      | inr h ↦
          let k = cut_same (encode_utf8 c) (encodes cs) l more e h in
          subst (λ (x : List ℕ). IsUtf8 x ⊎ Cut x) (sym k.0) (cut-first c (drop (length (encode_utf8 c)) l) two.0
          (cut cs (drop (length (encode_utf8 c)) l) more two.1 k.1))
    ]

-- the longest front that is a text
valid_cut : (l : List ℕ) (k : Cut l) → IsValidUpTo l (length k.text)
valid_cut l k = record {
  short = omega (arith, k.some, length-append k.text k.begin, ap (λ (r : List ℕ). length r) k.parts);
  front = subst IsUtf8 (sym (take-append_seam k.text k.begin) ∙ ap (λ (r : List ℕ). take (length k.text) r)
      (sym k.parts)) k.whole;
  longest = λ m h u.
      let n = m - length k.text in
      let sum : length k.text + n ≡ m = omega arith in
      let same : take m l ≡ k.text ++ take n k.begin = ap (λ (r : List ℕ). take m r) k.parts
      ∙ ap (λ (x : ℕ). take x (k.text ++ k.begin)) (sym sum) ∙ take-append-add k.text k.begin n in
      let part : IsUtf8 (take n k.begin) = cancel k.whole.0 (take n k.begin)
      (subst (λ (t : List ℕ). IsUtf8 (t ++ take n k.begin)) (sym k.whole.1.1) (subst IsUtf8 same u)) in
      k.apart (take n k.begin) (drop n k.begin) (sym (take-append-drop n k.begin))
      (taken n k.begin (omega arith) k.some) part;
}
  where
    taken : (n : ℕ) (bs : List ℕ) → 0 < n → 0 < length bs → 0 < length (take n bs)
    taken zero bs h some = absurd (omega arith)
    taken (suc n) [] h some = absurd (omega arith)
    taken (suc n) (b ∷ bs) h some = omega arith

or_left : (a b : Bool) → a ≡ true → (a || b) ≡ true
or_left true b e = refl
or_left false b e = absurd (false≢true e)

or_right : (a b : Bool) → b ≡ true → (a || b) ≡ true
or_right true b e = refl
or_right false b e = e

pub front-down : (l more : List ℕ) → is_utf8 (l ++ more) ≡ true → is_text_front l ≡ true
front-down l more h =
    let u = IsUtf8-from_is_utf8 (l ++ more) h in
    elim (cut u.0 l more u.1.0 u.1.1) [
      | inl w ↦ or_left (is_utf8 l) (is_begun (drop (utf8_valid_len l) l)) (is_utf8-from_IsUtf8 l w)
      | inr k ↦
          let n = utf8_valid_len-IsValidUpTo l (length k.text) (valid_cut l k) in
          or_right (is_utf8 l) (is_begun (drop (utf8_valid_len l) l))
          (ap (λ (x : ℕ). is_begun (drop x l)) n ∙ ap (λ (r : List ℕ). is_begun (drop (length k.text) r)) k.parts
          ∙ ap is_begun (drop-append_seam k.text k.begin) ∙ k.begun)
    ]
