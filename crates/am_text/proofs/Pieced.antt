-- Pieces of a text, joined.
use Rattle.std.proofs.Common.{◌≡◌, ◌⊎◌, ℕ, zero, suc, ◌+◌, ◌-◌, ◌/◌, ◌%◌, ◌<◌, ◌≤◌, Bool, true, false, cond, ◌&&◌, leb}
use Rattle.std.proofs.Common.{eqb, List, [], ◌∷◌, ◌++◌, length, take, drop, get_or, refl, sym, ap, ◌∙◌, arith, inl, inr}
use Rattle.std.specs.Char.{encode_utf8, IsScalar}
use Rattle.std.specs.Int.{is_in_range}
use Rattle.std.specs.List.{AllByRecursion}
use Rattle.std.specs.Str.Lossy.{second_byte_min, second_byte_max}
use Rattle.std.proofs.lemmas.Bool.{and_cases, and_parts, and_right, false≢true, leb-true, leb-false, lt-ltb, le-ltb}
use Rattle.std.proofs.lemmas.Bool.{le-leb, lt-leb, cases_lt}
use Rattle.std.proofs.lemmas.List.{append-nil, length-append, take_at, drop_at}
use Rattle.am_text.specs.Utf8.{is_later, begins_two, begins_three, begins_four, front_rune, front_width, decode_after}
use Rattle.am_text.specs.Utf8.{decode, rune_bytes, utf8}
use Rattle.am_text.proofs.Encoded.{decode_encode_all}
use Rattle.am_text.specs.Pieces.{is_begun, rest_of, whole_of, decode_part}

-- ---- tests

-- a narrower range has no more
narrow : (lo hi low high a : ℕ) → lo ≤ low → high ≤ hi → is_in_range lo hi a ≡ false → is_in_range low high a ≡ false
narrow lo hi low high a h k e =
    elim (and_cases (leb lo a) (leb a hi) e) [
      | inl l ↦ let below = leb-false lo a l in rw (lt-leb low a (omega arith)) refl
      | inr r ↦ let above = leb-false a hi r in and_right (leb low a) (leb a high) (lt-leb a high (omega arith))
    ]

second_low : (a : ℕ) → 0x80 ≤ second_byte_min a
second_low a =
    elim (eqb a 0xE0) as (λ t. 0x80 ≤ cond t 0xA0 (cond (eqb a 0xF0) 0x90 0x80)) [
      | true ↦ omega arith
      | false ↦ elim (eqb a 0xF0) as (λ t. 0x80 ≤ cond t 0x90 0x80) [ true ↦ omega arith | false ↦ omega arith ]
    ]

second_high : (a : ℕ) → second_byte_max a ≤ 0xBF
second_high a =
    elim (eqb a 0xED) as (λ t. cond t 0x9F (cond (eqb a 0xF4) 0x8F 0xBF) ≤ 0xBF) [
      | true ↦ omega arith
      | false ↦ elim (eqb a 0xF4) as (λ t. cond t 0x8F 0xBF ≤ 0xBF) [ true ↦ omega arith | false ↦ omega arith ]
    ]

no_second : (a b : ℕ) → is_later b ≡ false → is_in_range (second_byte_min a) (second_byte_max a) b ≡ false
no_second a b e = narrow 0x80 0xBF (second_byte_min a) (second_byte_max a) b (second_low a) (second_high a) e

three_first : (p s l : Bool) → p ≡ false → (p && s && l) ≡ false
three_first p s l e = rw e refl

three_second : (p s l : Bool) → s ≡ false → (p && s && l) ≡ false
three_second false s l e = refl
three_second true s l e = rw e refl

three_third : (p s l : Bool) → l ≡ false → (p && s && l) ≡ false
three_third false s l e = refl
three_third true false l e = refl
three_third true true l e = e

four_first : (p s l m : Bool) → p ≡ false → (p && s && l && m) ≡ false
four_first p s l m e = rw e refl

four_second : (p s l m : Bool) → s ≡ false → (p && s && l && m) ≡ false
four_second false s l m e = refl
four_second true s l m e = rw e refl

four_third : (p s l m : Bool) → l ≡ false → (p && s && l && m) ≡ false
four_third false s l m e = refl
four_third true false l m e = refl
four_third true true l m e = rw e refl

four_fourth : (p s l m : Bool) → m ≡ false → (p && s && l && m) ≡ false
four_fourth false s l m e = refl
four_fourth true false l m e = refl
four_fourth true true false m e = refl
four_fourth true true true m e = e

-- a wider first range
three_wider : (r p s l : Bool) → (r && s) ≡ false → (r ≡ false → p ≡ false) → (p && s && l) ≡ false
three_wider false p s l e h = three_first p s l (h refl)
three_wider true p s l e h = three_second p s l e

four_wider : (r p s l m : Bool) → (r && s) ≡ false → (r ≡ false → p ≡ false) → (p && s && l && m) ≡ false
four_wider false p s l m e h = four_first p s l m (h refl)
four_wider true p s l m e h = four_second p s l m e

four_more : (p s l m : Bool) → (p && s && l) ≡ false → (p && s && l && m) ≡ false
four_more false s l m e = refl
four_more true false l m e = refl
four_more true true l m e = rw e refl

-- ---- the front of bytes that more bytes follow

-- no sequence begins with x and ends in y
record Apart (x y : List ℕ) : Type 0 where
  two : length x < 2 → begins_two (x ++ y) ≡ false
  three : length x < 3 → begins_three (x ++ y) ≡ false
  four : length x < 4 → begins_four (x ++ y) ≡ false

apart_begun : (x y : List ℕ) → 0 < length x → is_begun x ≡ false → Apart x y
unfolding is_begun
apart_begun [] y some e = absurd (omega arith)
apart_begun (a ∷ []) y some e = record {
  two = λ h. rw (narrow 0xC2 0xF4 0xC2 0xDF a (omega arith) (omega arith) e) refl;
  three = λ h. three_first (is_in_range 0xE0 0xEF a) _ _ (narrow 0xC2 0xF4 0xE0 0xEF a (omega arith) (omega arith) e);
  four = λ h. four_first (is_in_range 0xF0 0xF4 a) _ _ _ (narrow 0xC2 0xF4 0xF0 0xF4 a (omega arith) (omega arith) e);
}
apart_begun (a ∷ b ∷ []) y some e = record {
  two = λ h. absurd (omega arith);
  three = λ h. three_wider (is_in_range 0xE0 0xF4 a) (is_in_range 0xE0 0xEF a) _ _ e
      (λ r. narrow 0xE0 0xF4 0xE0 0xEF a (omega arith) (omega arith) r);
  four = λ h. four_wider (is_in_range 0xE0 0xF4 a) (is_in_range 0xF0 0xF4 a) _ _ _ e
      (λ r. narrow 0xE0 0xF4 0xF0 0xF4 a (omega arith) (omega arith) r);
}
apart_begun (a ∷ b ∷ c ∷ []) y some e = record {
  two = λ h. absurd (omega arith);
  three = λ h. absurd (omega arith);
  four = λ h. four_more (is_in_range 0xF0 0xF4 a) _ _ _ e;
}
apart_begun (a ∷ b ∷ c ∷ d ∷ x) y some e = record {
  two = λ h. absurd (omega arith);
  three = λ h. absurd (omega arith);
  four = λ h. absurd (omega arith);
}

apart_later : (x y : List ℕ) → 0 < length x → is_later (get_or y 0 0) ≡ false → Apart x y
apart_later [] y some e = absurd (omega arith)
apart_later (a ∷ []) y some e = record {
  two = λ h. and_right (is_in_range 0xC2 0xDF a) (is_later (get_or y 0 0)) e;
  three = λ h. three_second (is_in_range 0xE0 0xEF a) _ _ (no_second a (get_or y 0 0) e);
  four = λ h. four_second (is_in_range 0xF0 0xF4 a) _ _ _ (no_second a (get_or y 0 0) e);
}
apart_later (a ∷ b ∷ []) y some e = record {
  two = λ h. absurd (omega arith);
  three = λ h. three_third (is_in_range 0xE0 0xEF a) _ (is_later (get_or y 0 0)) e;
  four = λ h. four_third (is_in_range 0xF0 0xF4 a) _ (is_later (get_or y 0 0)) _ e;
}
apart_later (a ∷ b ∷ c ∷ []) y some e = record {
  two = λ h. absurd (omega arith);
  three = λ h. absurd (omega arith);
  four = λ h. four_fourth (is_in_range 0xF0 0xF4 a) _ _ (is_later (get_or y 0 0)) e;
}
apart_later (a ∷ b ∷ c ∷ d ∷ x) y some e = record {
  two = λ h. absurd (omega arith);
  three = λ h. absurd (omega arith);
  four = λ h. absurd (omega arith);
}

-- a width, where each test can hold only of as many bytes
width_low : (t u v : Bool) → 0 < cond t 2 (cond u 3 (cond v 4 1))
width_low true u v = omega arith
width_low false true v = omega arith
width_low false false true = omega arith
width_low false false false = omega arith

width_high : (t u v : Bool) (n : ℕ) → 0 < n → (n < 2 → t ≡ false) → (n < 3 → u ≡ false) → (n < 4 → v ≡ false)
    → cond t 2 (cond u 3 (cond v 4 1)) ≤ n
width_high true u v n some two three four = elim (cases_lt n 2) [
  | inl h ↦ absurd (false≢true (sym (two h)))
  | inr h ↦ h
]
width_high false true v n some two three four = elim (cases_lt n 3)
    [ inl h ↦ absurd (false≢true (sym (three h))) | inr h ↦ h ]
width_high false false true n some two three four = elim (cases_lt n 4)
    [ inl h ↦ absurd (false≢true (sym (four h))) | inr h ↦ h ]
width_high false false false n some two three four = omega arith

-- the front is the same, and stands in x
record SameFront (x y : List ℕ) : Type 0 where
  width : front_width (x ++ y) ≡ front_width x
  rune : front_rune (x ++ y) ≡ front_rune x
  positive : 0 < front_width x
  inside : front_width x ≤ length x

same_front : (x y : List ℕ) → 0 < length x → Apart x y → SameFront x y
unfolding front_rune front_width
same_front [] y some p = absurd (omega arith)
same_front (a ∷ []) y some p =
    let x : List ℕ = a ∷ [] in
    let o = apart_later x [] some refl in
    let two = p.two (omega arith) in
    let three = p.three (omega arith) in
    let four = p.four (omega arith) in
    let two' = o.two (omega arith) in
    let three' = o.three (omega arith) in
    let four' = o.four (omega arith) in
    record {
      width = simp (two, three, four, two', three', four');
      rune = simp (two, three, four, two', three', four');
      positive = width_low (begins_two x) (begins_three x) (begins_four x);
      inside = width_high (begins_two x) (begins_three x) (begins_four x) (length x) some o.two o.three o.four;
    }
same_front (a ∷ b ∷ []) y some p =
    let x : List ℕ = a ∷ b ∷ [] in
    let o = apart_later x [] some refl in
    let three = p.three (omega arith) in
    let four = p.four (omega arith) in
    let three' = o.three (omega arith) in
    let four' = o.four (omega arith) in
    record {
      width = simp (three, four, three', four');
      rune = simp (three, four, three', four');
      positive = width_low (begins_two x) (begins_three x) (begins_four x);
      inside = width_high (begins_two x) (begins_three x) (begins_four x) (length x) some o.two o.three o.four;
    }
same_front (a ∷ b ∷ c ∷ []) y some p =
    let x : List ℕ = a ∷ b ∷ c ∷ [] in
    let o = apart_later x [] some refl in
    let four = p.four (omega arith) in
    let four' = o.four (omega arith) in
    record {
      width = simp (four, four');
      rune = simp (four, four');
      positive = width_low (begins_two x) (begins_three x) (begins_four x);
      inside = width_high (begins_two x) (begins_three x) (begins_four x) (length x) some o.two o.three o.four;
    }
same_front (a ∷ b ∷ c ∷ d ∷ l) y some p =
    let x : List ℕ = a ∷ b ∷ c ∷ d ∷ l in
    let o = apart_later x [] some refl in
    record {
      width = refl;
      rune = refl;
      positive = width_low (begins_two x) (begins_three x) (begins_four x);
      inside = width_high (begins_two x) (begins_three x) (begins_four x) (length x) some (λ h. absurd (omega arith))
          (λ h. absurd (omega arith)) (λ h. absurd (omega arith));
    }

-- ---- decoding of joined bytes

guard_nil : (t : Bool) (b : ℕ) (bs r : List ℕ) → cond t (b ∷ bs) r ≡ [] → (t ≡ false) × (r ≡ [])
guard_nil true b bs r e = absurd cc
guard_nil false b bs r e = (refl, e)

-- x has nothing left over, or y doesn't go on with a sequence
abbrev Parted : List ℕ → List ℕ → Type 0
Parted x y = (rest_of x ≡ []) ⊎ (is_later (get_or y 0 0) ≡ false)

parted_apart : (b : ℕ) (bs y : List ℕ) → Parted (b ∷ bs) y → Apart (b ∷ bs) y
unfolding rest_of
parted_apart b bs y p =
    elim p [
      | inl e ↦ let g = guard_nil (is_begun (b ∷ bs)) b bs (rest_of bs) e in apart_begun (b ∷ bs) y (omega arith) g.0
      | inr e ↦ apart_later (b ∷ bs) y (omega arith) e
    ]

parted_tail : (b : ℕ) (bs y : List ℕ) → Parted (b ∷ bs) y → Parted bs y
unfolding rest_of
parted_tail b bs y p = elim p [
  | inl e ↦ let g = guard_nil (is_begun (b ∷ bs)) b bs (rest_of bs) e in
      inl g.1
  | inr e ↦ inr e
]

decode_after-append : (x y : List ℕ) (n : ℕ) → n ≤ length x → Parted x y → decode_after n (x ++ y) ≡ decode_after n x
    ++ decode y
unfolding decode_after
decode_after-append [] y zero h p = refl
decode_after-append [] y (suc n) h p = absurd (omega arith)
decode_after-append (b ∷ bs) y (suc n) h p = decode_after-append bs y n (omega arith) (parted_tail b bs y p)
decode_after-append (b ∷ bs) y zero h p =
    let s = same_front (b ∷ bs) y (omega arith) (parted_apart b bs y p) in
    let positive = s.positive in
    let inside = s.inside in
    let ih = decode_after-append bs y (front_width (b ∷ bs) - 1) (omega arith) (parted_tail b bs y p) in
    ap (λ (r : ℕ). r ∷ decode_after (front_width (b ∷ (bs ++ y)) - 1) (bs ++ y)) s.rune
    ∙ ap (λ (w : ℕ). front_rune (b ∷ bs) ∷ decode_after (w - 1) (bs ++ y)) s.width
    ∙ ap (λ (l : List ℕ). front_rune (b ∷ bs) ∷ l) ih

decode-append : (x y : List ℕ) → Parted x y → decode (x ++ y) ≡ decode x ++ decode y
decode-append x y p = decode_after-append x y 0 (omega arith) p

-- ---- what is left over

pub whole-append-rest : (bs : List ℕ) → whole_of bs ++ rest_of bs ≡ bs
unfolding whole_of rest_of
whole-append-rest [] = refl
whole-append-rest (b ∷ bs) =
    let ih = whole-append-rest bs in
    elim (is_begun (b ∷ bs)) as (λ t. cond t [] (b ∷ whole_of bs) ++ cond t (b ∷ bs) (rest_of bs) ≡ b ∷ bs)
    [ true ↦ refl | false ↦ ap (λ (l : List ℕ). b ∷ l) ih ]

-- what isn't begun isn't with more bytes
not_begun : (x y : List ℕ) → 0 < length x → is_begun x ≡ false → is_begun (x ++ y) ≡ false
unfolding is_begun
not_begun [] y some e = absurd (omega arith)
not_begun (a ∷ []) [] some e = e
not_begun (a ∷ []) (b ∷ []) some e = rw (narrow 0xC2 0xF4 0xE0 0xF4 a (omega arith) (omega arith) e) refl
not_begun (a ∷ []) (b ∷ c ∷ []) some e = three_first (is_in_range 0xF0 0xF4 a) _ _
    (narrow 0xC2 0xF4 0xF0 0xF4 a (omega arith) (omega arith) e)
not_begun (a ∷ []) (b ∷ c ∷ d ∷ y) some e = refl
not_begun (a ∷ b ∷ []) [] some e = e
not_begun (a ∷ b ∷ []) (c ∷ []) some e = three_wider (is_in_range 0xE0 0xF4 a) (is_in_range 0xF0 0xF4 a) _ _ e
    (λ r. narrow 0xE0 0xF4 0xF0 0xF4 a (omega arith) (omega arith) r)
not_begun (a ∷ b ∷ []) (c ∷ d ∷ y) some e = refl
not_begun (a ∷ b ∷ c ∷ []) [] some e = e
not_begun (a ∷ b ∷ c ∷ []) (d ∷ y) some e = refl
not_begun (a ∷ b ∷ c ∷ d ∷ x) y some e = refl

pub rest-append : (a b : List ℕ) → rest_of (a ++ b) ≡ rest_of (rest_of a ++ b)
unfolding rest_of
rest-append [] b = refl
rest-append (c ∷ cs) b =
    let ih = rest-append cs b in
    elim (is_begun (c ∷ cs)) as (λ t. is_begun (c ∷ cs) ≡ t → rest_of (c ∷ (cs ++ b))
    ≡ rest_of (cond t (c ∷ cs) (rest_of cs) ++ b)) [
      | true ↦ λ e. refl
      | false ↦ λ e. rw (not_begun (c ∷ cs) b (omega arith) e) ih
    ] refl

whole-append : (a b : List ℕ) → whole_of (a ++ b) ≡ whole_of a ++ whole_of (rest_of a ++ b)
unfolding whole_of rest_of
whole-append [] b = refl
whole-append (c ∷ cs) b =
    let ih = whole-append cs b in
    elim (is_begun (c ∷ cs)) as (λ t. is_begun (c ∷ cs) ≡ t → whole_of (c ∷ (cs ++ b)) ≡ cond t [] (c ∷ whole_of cs)
    ++ whole_of (cond t (c ∷ cs) (rest_of cs) ++ b)) [
      | true ↦ λ e. refl
      | false ↦ λ e. rw (not_begun (c ∷ cs) b (omega arith) e) (ap (λ (l : List ℕ). c ∷ l) ih)
    ] refl

rest_cases : (bs : List ℕ) → (rest_of bs ≡ []) ⊎ (is_begun (rest_of bs) ≡ true)
unfolding rest_of
rest_cases [] = inl refl
rest_cases (b ∷ bs) =
    let ih = rest_cases bs in
    elim (is_begun (b ∷ bs)) as (λ t. is_begun (b ∷ bs) ≡ t → (cond t (b ∷ bs) (rest_of bs) ≡ [])
    ⊎ (is_begun (cond t (b ∷ bs) (rest_of bs)) ≡ true)) [ true ↦ λ e. inr e | false ↦ λ e. ih ] refl

-- the first byte of what is begun
lead : (lo hi b : ℕ) → 0xC2 ≤ lo → is_in_range lo hi b ≡ true → is_later b ≡ false
lead lo hi b h e = let p = and_parts (leb lo b) (leb b hi) e in let low = leb-true lo b p.0 in
    and_right (leb 0x80 b) (leb b 0xBF) (lt-leb b 0xBF (omega arith))

three_parts : (p s l : Bool) → (p && s && l) ≡ true → p ≡ true
three_parts true s l e = refl
three_parts false s l e = e

begun_lead : (b : ℕ) (bs : List ℕ) → is_begun (b ∷ bs) ≡ true → is_later b ≡ false
unfolding is_begun
begun_lead a [] e = lead 0xC2 0xF4 a (omega arith) e
begun_lead a (b ∷ []) e = let p = and_parts (is_in_range 0xE0 0xF4 a) _ e in lead 0xE0 0xF4 a (omega arith) p.0
begun_lead a (b ∷ c ∷ []) e = lead 0xF0 0xF4 a (omega arith) (three_parts (is_in_range 0xF0 0xF4 a) _ _ e)
begun_lead a (b ∷ c ∷ d ∷ bs) e = absurd (false≢true e)

begun_first : (r : List ℕ) → is_begun r ≡ true → is_later (get_or r 0 0) ≡ false
unfolding is_begun
begun_first [] e = refl
begun_first (b ∷ bs) e = begun_lead b bs e

begun_some : is_begun [] ≡ true → ⊥
unfolding is_begun
begun_some e = false≢true e

whole_first : (r b : List ℕ) → is_begun r ≡ true → is_later (get_or (whole_of (r ++ b)) 0 0) ≡ false
unfolding whole_of
whole_first [] b e = absurd (begun_some e)
whole_first (c ∷ cs) b e =
    elim (is_begun (c ∷ (cs ++ b))) as (λ t. is_later (get_or (cond t [] (c ∷ whole_of (cs ++ b))) 0 0) ≡ false)
    [ true ↦ refl | false ↦ begun_lead c cs e ]

whole_all : (bs : List ℕ) → rest_of bs ≡ [] → whole_of bs ≡ bs
whole_all bs e = sym (append-nil (whole_of bs)) ∙ ap (λ (l : List ℕ). whole_of bs ++ l) (sym e) ∙ whole-append-rest bs

parted_whole : (a b : List ℕ) → Parted (whole_of a) (whole_of (rest_of a ++ b))
parted_whole a b = elim (rest_cases a) [
  | inl e ↦ inl (ap rest_of (whole_all a e) ∙ e)
  | inr e ↦ inr
      (whole_first (rest_of a) b e)
]

pub text-append : (a b : List ℕ) → decode (whole_of (a ++ b)) ≡ decode (whole_of a)
    ++ decode (whole_of (rest_of a ++ b))
text-append a b = ap decode (whole-append a b) ∙ decode-append (whole_of a) (whole_of (rest_of a ++ b))
    (parted_whole a b)

pub ends_whole : (bs : List ℕ) → decode bs ≡ decode (whole_of bs) ++ decode (rest_of bs)
ends_whole bs =
    let p : Parted (whole_of bs) (rest_of bs) = elim (rest_cases bs)
    [ inl e ↦ inl (ap rest_of (whole_all bs e) ∙ e) | inr e ↦ inr (begun_first (rest_of bs) e) ] in
    ap decode (sym (whole-append-rest bs)) ∙ decode-append (whole_of bs) (rest_of bs) p

begun_few : (bs : List ℕ) → is_begun bs ≡ true → length bs ≤ 3
unfolding is_begun
begun_few [] e = omega arith
begun_few (a ∷ []) e = omega arith
begun_few (a ∷ b ∷ []) e = omega arith
begun_few (a ∷ b ∷ c ∷ []) e = omega arith
begun_few (a ∷ b ∷ c ∷ d ∷ bs) e = absurd (false≢true e)

pub length-rest-few : (bs : List ℕ) → length (rest_of bs) ≤ 3
length-rest-few bs = elim (rest_cases bs) [ inl e ↦ omega (arith, ap length e) | inr e ↦ begun_few (rest_of bs) e ]

-- ---- finding it

pub rest-front : (bs : List ℕ) → 0 < length bs → is_begun bs ≡ false → rest_of bs ≡ rest_of (drop 1 bs)
unfolding rest_of
rest-front [] some e = absurd (omega arith)
rest-front (b ∷ bs) some e = rw e refl

pub rest-here : (bs : List ℕ) → 0 < length bs → is_begun bs ≡ true → rest_of bs ≡ bs
unfolding rest_of
rest-here [] some e = absurd (omega arith)
rest-here (b ∷ bs) some e = rw e refl

pub rest-nil : (bs : List ℕ) → length bs ≡ 0 → rest_of bs ≡ bs
unfolding rest_of
rest-nil [] e = refl
rest-nil (b ∷ bs) e = absurd (omega arith)

long_begun : (bs : List ℕ) → 4 ≤ length bs → is_begun bs ≡ false
unfolding is_begun
long_begun [] h = absurd (omega arith)
long_begun (a ∷ []) h = absurd (omega arith)
long_begun (a ∷ b ∷ []) h = absurd (omega arith)
long_begun (a ∷ b ∷ c ∷ []) h = absurd (omega arith)
long_begun (a ∷ b ∷ c ∷ d ∷ bs) h = refl

rest-drop : (k : ℕ) (bs : List ℕ) → k + 3 ≤ length bs → rest_of (drop k bs) ≡ rest_of bs
rest-drop zero bs h = refl
rest-drop (suc k) [] h = absurd (omega arith)
rest-drop (suc k) (b ∷ bs) h = rest-drop k bs (omega arith) ∙ sym (rest-front (b ∷ bs) (omega arith)
    (long_begun (b ∷ bs) (omega arith)))

pub rest-last : (bs : List ℕ) → rest_of (drop (length bs - 3) bs) ≡ rest_of bs
rest-last bs =
    elim (cases_lt (length bs) 3) [
      | inl h ↦ let e : length bs - 3 ≡ 0 = omega arith in rw e refl
      | inr h ↦ rest-drop (length bs - 3) bs (omega arith)
    ]

pub length-rest : (bs : List ℕ) → length (rest_of bs) ≤ length bs
length-rest bs = let e = ap length (whole-append-rest bs) in let n = length-append (whole_of bs) (rest_of bs) in
    omega arith

pub whole-take : (bs : List ℕ) → take (length bs - length (rest_of bs)) bs ≡ whole_of bs
whole-take bs =
    let n = length-append (whole_of bs) (rest_of bs) in
    let all = ap length (whole-append-rest bs) in
    let e : length (whole_of bs) ≡ length bs - length (rest_of bs) = omega arith in
    ap (λ (l : List ℕ). take (length bs - length (rest_of bs)) l) (sym (whole-append-rest bs))
    ∙ take_at (whole_of bs) (rest_of bs) (length bs - length (rest_of bs)) e

pub rest-drop-whole : (bs : List ℕ) → drop (length bs - length (rest_of bs)) bs ≡ rest_of bs
rest-drop-whole bs =
    let n = length-append (whole_of bs) (rest_of bs) in
    let all = ap length (whole-append-rest bs) in
    let e : length (whole_of bs) ≡ length bs - length (rest_of bs) = omega arith in
    ap (λ (l : List ℕ). drop (length bs - length (rest_of bs)) l) (sym (whole-append-rest bs))
    ∙ drop_at (whole_of bs) (rest_of bs) (length bs - length (rest_of bs)) e

-- ---- the bytes of a text

no_two : (a b : ℕ) → a ≤ 0xDF → is_begun (a ∷ b ∷ []) ≡ false
unfolding is_begun
no_two a b h = rw (lt-leb 0xE0 a (omega arith)) refl

no_three : (a b c : ℕ) → a ≤ 0xEF → is_begun (a ∷ b ∷ c ∷ []) ≡ false
unfolding is_begun
no_three a b c h = rw (lt-leb 0xF0 a (omega arith)) refl

later : (x : ℕ) → is_later (128 + x % 64) ≡ true
later x = rw (le-leb 0x80 (128 + x % 64) (omega arith), le-leb (128 + x % 64) 0xBF (omega arith)) refl

rest-later : (b : ℕ) (bs : List ℕ) → is_later b ≡ true → rest_of (b ∷ bs) ≡ rest_of bs
unfolding rest_of
rest-later b bs h =
    elim (is_begun (b ∷ bs)) as (λ t. is_begun (b ∷ bs) ≡ t → cond t (b ∷ bs) (rest_of bs) ≡ rest_of bs) [
      | true ↦ λ e. absurd (false≢true (sym (begun_lead b bs e) ∙ h))
      | false ↦ λ e. refl
    ] refl

rest_nil : rest_of [] ≡ []
unfolding rest_of
rest_nil = refl

rest_one : (c : ℕ) → c < 128 → rest_of (c ∷ []) ≡ []
unfolding rest_of is_begun
rest_one c h = rw (lt-leb 0xC2 c (omega arith)) refl

rest_two : (c : ℕ) → c < 2048 → rest_of ((192 + c / 64) ∷ (128 + c % 64) ∷ []) ≡ []
rest_two c h =
    let no : is_begun ((192 + c / 64) ∷ (128 + c % 64) ∷ []) ≡ false = no_two (192 + c / 64) (128 + c % 64)
    (omega arith) in
    rest-front ((192 + c / 64) ∷ (128 + c % 64) ∷ []) (omega arith) no ∙ rest-later (128 + c % 64) [] (later c)
    ∙ rest_nil

rest_three : (c : ℕ) → c < 65536 → rest_of ((224 + c / 4096) ∷ (128 + c / 64 % 64) ∷ (128 + c % 64) ∷ []) ≡ []
rest_three c h =
    let no : is_begun ((224 + c / 4096) ∷ (128 + c / 64 % 64) ∷ (128 + c % 64) ∷ []) ≡ false = no_three (224 + c / 4096)
    (128 + c / 64 % 64) (128 + c % 64) (omega arith) in
    rest-front ((224 + c / 4096) ∷ (128 + c / 64 % 64) ∷ (128 + c % 64) ∷ []) (omega arith) no
    ∙ rest-later (128 + c / 64 % 64) ((128 + c % 64) ∷ []) (later (c / 64)) ∙ rest-later (128 + c % 64) [] (later c)
    ∙ rest_nil

rest_four : (c : ℕ) → rest_of ((240 + c / 262144) ∷ (128 + c / 4096 % 64) ∷ (128 + c / 64 % 64) ∷ (128 + c % 64) ∷ [])
    ≡ []
rest_four c =
    let l : List ℕ = (128 + c / 4096 % 64) ∷ (128 + c / 64 % 64) ∷ (128 + c % 64) ∷ [] in
    rest-front ((240 + c / 262144) ∷ l) (omega arith) (long_begun ((240 + c / 262144) ∷ l) (omega arith))
    ∙ rest-later (128 + c / 4096 % 64) ((128 + c / 64 % 64) ∷ (128 + c % 64) ∷ []) (later (c / 4096))
    ∙ rest-later (128 + c / 64 % 64) ((128 + c % 64) ∷ []) (later (c / 64)) ∙ rest-later (128 + c % 64) [] (later c)
    ∙ rest_nil

rest-encode : (c : ℕ) → rest_of (encode_utf8 c) ≡ []
unfolding encode_utf8
rest-encode c =
    elim (cases_lt c 128) [
      | inl h ↦ rw (lt-ltb c 128 h) (rest_one c h)
      | inr h ↦ elim (cases_lt c 2048) [
        | inl k ↦ rw (le-ltb c 128 h, lt-ltb c 2048 k) (rest_two c k)
        | inr k ↦ elim (cases_lt c 65536) [
          | inl m ↦ rw (le-ltb c 128 h, le-ltb c 2048 k, lt-ltb c 65536 m) (rest_three c m)
          | inr m ↦ rw (le-ltb c 128 h, le-ltb c 2048 k, le-ltb c 65536 m) (rest_four c)
        ]
      ]
    ]

rest-utf8 : (text : List ℕ) → AllByRecursion IsScalar text → rest_of (utf8 text) ≡ []
rest-utf8 [] s = rest_nil
rest-utf8 (c ∷ cs) s =
    let bytes : rune_bytes c ≡ encode_utf8 c = ap (λ (t : Bool). cond t (encode_utf8 c) (encode_utf8 0xFFFD)) s.0 in
    ap (λ (l : List ℕ). rest_of (l ++ utf8 cs)) bytes
    ∙ rest-append (encode_utf8 c) (utf8 cs)
    ∙ ap (λ (l : List ℕ). rest_of (l ++ utf8 cs)) (rest-encode c)
    ∙ rest-utf8 cs s.1

pub leaves_none : (text : List ℕ) → AllByRecursion IsScalar text →
    decode_part (utf8 text) ≡ record { text = text; rest = [] }
leaves_none text s =
    let none = rest-utf8 text s in
    let same : decode (whole_of (utf8 text)) ≡ text = ap decode (whole_all (utf8 text) none)
    ∙ decode_encode_all text s in
    cc

pub ruleset leaving = (rest-front, rest-here, rest-nil, rest-last, length-rest, length-rest-few)

pub ruleset cutting = (whole-take, rest-drop-whole, length-rest-few)
