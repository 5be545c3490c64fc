-- What is begun is a proper front of a sequence, and each such front is begun.
use Rattle.std.proofs.Common.{◌≡◌, ◌↔◌, ℕ, ◌<◌, ◌≤◌, Bool, true, false, cond, ◌&&◌, leb, eqb, List, [], ◌∷◌, ◌++◌}
use Rattle.std.proofs.Common.{length, refl, arith, inl, inr}
use Rattle.std.specs.Int.{is_in_range}
use Rattle.std.specs.Str.Lossy.{second_byte_min, second_byte_max}
use Rattle.std.proofs.lemmas.Bool.{and_parts, and_from, false≢true, leb-true, le-leb, lt-leb, eqb-true, cases_lt}
use Rattle.std.proofs.lemmas.List.{length-append}
use Rattle.am_text.specs.Utf8.{is_later, begins_two, begins_three, begins_four, front_width}
use Rattle.am_text.specs.Pieces.{is_begun, IsSequence}

in_range : (lo hi b : ℕ) → lo ≤ b → b ≤ hi → is_in_range lo hi b ≡ true
in_range lo hi b h k = and_from (leb lo b) (leb b hi) (le-leb lo b h) (le-leb b hi k)

bounds : (lo hi b : ℕ) → is_in_range lo hi b ≡ true → (lo ≤ b) × (b ≤ hi)
bounds lo hi b e = let p = and_parts (leb lo b) (leb b hi) e in (leb-true lo b p.0, leb-true b hi p.1)

wider : (lo hi low high b : ℕ) → low ≤ lo → hi ≤ high → is_in_range lo hi b ≡ true → is_in_range low high b ≡ true
wider lo hi low high b h k e = let p = bounds lo hi b e in let below = p.0 in let above = p.1 in
    in_range low high b (omega arith) (omega arith)

three_parts : (p s l : Bool) → (p && s && l) ≡ true → (p ≡ true) × (s ≡ true) × (l ≡ true)
three_parts true true true e = (refl, refl, refl)
three_parts true true false e = absurd (false≢true e)
three_parts true false l e = absurd (false≢true e)
three_parts false s l e = absurd (false≢true e)

three_from : (p s l : Bool) → p ≡ true → s ≡ true → l ≡ true → (p && s && l) ≡ true
three_from p s l e f g = rw (e, f, g) refl

four_parts : (p s l m : Bool) → (p && s && l && m) ≡ true → (p ≡ true) × (s ≡ true) × (l ≡ true)
four_parts true true true m e = (refl, refl, refl)
four_parts true true false m e = absurd (false≢true e)
four_parts true false l m e = absurd (false≢true e)
four_parts false s l m e = absurd (false≢true e)

four_from : (p s l m : Bool) → p ≡ true → s ≡ true → l ≡ true → m ≡ true → (p && s && l && m) ≡ true
four_from p s l m e f g h = rw (e, f, g, h) refl

-- ---- a front is begun

abbrev width_of : Bool → Bool → Bool → ℕ
width_of t u v = cond t 2 (cond u 3 (cond v 4 1))

is_two : (t u v : Bool) → width_of t u v ≡ 2 → t ≡ true
is_two true u v e = refl
is_two false true v e = absurd (omega arith)
is_two false false true e = absurd (omega arith)
is_two false false false e = absurd (omega arith)

is_three : (t u v : Bool) → width_of t u v ≡ 3 → u ≡ true
is_three true u v e = absurd (omega arith)
is_three false true v e = refl
is_three false false true e = absurd (omega arith)
is_three false false false e = absurd (omega arith)

is_four : (t u v : Bool) → width_of t u v ≡ 4 → v ≡ true
is_four true u v e = absurd (omega arith)
is_four false true v e = absurd (omega arith)
is_four false false true e = refl
is_four false false false e = absurd (omega arith)

at_most_four : (t u v : Bool) → width_of t u v ≤ 4
at_most_four true u v = omega arith
at_most_four false true v = omega arith
at_most_four false false true = omega arith
at_most_four false false false = omega arith

too_long : (bs : List ℕ) → 4 < length bs → front_width bs ≡ length bs → ⊥
unfolding front_width
too_long bs h e = let w = at_most_four (begins_two bs) (begins_three bs) (begins_four bs) in omega arith

two_of : (a b : ℕ) → IsSequence (a ∷ b ∷ []) → begins_two (a ∷ b ∷ []) ≡ true
unfolding front_width
two_of a b q = let l : List ℕ = a ∷ b ∷ [] in is_two (begins_two l) (begins_three l) (begins_four l) q.1

three_of : (a b c : ℕ) → IsSequence (a ∷ b ∷ c ∷ []) → begins_three (a ∷ b ∷ c ∷ []) ≡ true
unfolding front_width
three_of a b c q = let l : List ℕ = a ∷ b ∷ c ∷ [] in is_three (begins_two l) (begins_three l) (begins_four l) q.1

four_of : (a b c d : ℕ) → IsSequence (a ∷ b ∷ c ∷ d ∷ []) → begins_four (a ∷ b ∷ c ∷ d ∷ []) ≡ true
unfolding front_width
four_of a b c d q = let l : List ℕ = a ∷ b ∷ c ∷ d ∷ [] in is_four (begins_two l) (begins_three l) (begins_four l) q.1

front_begun : (bs more : List ℕ) → 0 < length bs → 0 < length more → IsSequence (bs ++ more) → is_begun bs ≡ true
unfolding is_begun
front_begun [] more some left q = absurd (omega arith)
front_begun (a ∷ bs) [] some left q = absurd (omega arith)
front_begun (a ∷ []) (b ∷ []) some left q =
    let p = and_parts (is_in_range 0xC2 0xDF a) (is_later b) (two_of a b q) in
    wider 0xC2 0xDF 0xC2 0xF4 a (omega arith) (omega arith) p.0
front_begun (a ∷ []) (b ∷ c ∷ []) some left q =
    let p = three_parts (is_in_range 0xE0 0xEF a) _ (is_later c) (three_of a b c q) in
    wider 0xE0 0xEF 0xC2 0xF4 a (omega arith) (omega arith) p.0
front_begun (a ∷ []) (b ∷ c ∷ d ∷ []) some left q =
    let p = four_parts (is_in_range 0xF0 0xF4 a) _ (is_later c) (is_later d) (four_of a b c d q) in
    wider 0xF0 0xF4 0xC2 0xF4 a (omega arith) (omega arith) p.0
front_begun (a ∷ []) (b ∷ c ∷ d ∷ e ∷ more) some left q = absurd (too_long (a ∷ b ∷ c ∷ d ∷ e ∷ more) (omega arith) q.1)
front_begun (a ∷ b ∷ []) (c ∷ []) some left q =
    let p = three_parts (is_in_range 0xE0 0xEF a) (is_in_range (second_byte_min a) (second_byte_max a) b) (is_later c)
    (three_of a b c q) in
    and_from (is_in_range 0xE0 0xF4 a) (is_in_range (second_byte_min a) (second_byte_max a) b)
    (wider 0xE0 0xEF 0xE0 0xF4 a (omega arith) (omega arith) p.0) p.1
front_begun (a ∷ b ∷ []) (c ∷ d ∷ []) some left q =
    let p = four_parts (is_in_range 0xF0 0xF4 a) (is_in_range (second_byte_min a) (second_byte_max a) b) (is_later c)
    (is_later d) (four_of a b c d q) in
    and_from (is_in_range 0xE0 0xF4 a) (is_in_range (second_byte_min a) (second_byte_max a) b)
    (wider 0xF0 0xF4 0xE0 0xF4 a (omega arith) (omega arith) p.0) p.1
front_begun (a ∷ b ∷ []) (c ∷ d ∷ e ∷ more) some left q = absurd (too_long (a ∷ b ∷ c ∷ d ∷ e ∷ more) (omega arith) q.1)
front_begun (a ∷ b ∷ c ∷ []) (d ∷ []) some left q =
    let p = four_parts (is_in_range 0xF0 0xF4 a) (is_in_range (second_byte_min a) (second_byte_max a) b) (is_later c)
    (is_later d) (four_of a b c d q) in
    three_from (is_in_range 0xF0 0xF4 a) (is_in_range (second_byte_min a) (second_byte_max a) b) (is_later c) p.0 p.1
    p.2
front_begun (a ∷ b ∷ c ∷ []) (d ∷ e ∷ more) some left q = absurd (too_long (a ∷ b ∷ c ∷ d ∷ e ∷ more) (omega arith) q.1)
front_begun (a ∷ b ∷ c ∷ d ∷ bs) (e ∷ more) some left q =
    let n = length-append bs (e ∷ more) in absurd (too_long (a ∷ b ∷ c ∷ d ∷ (bs ++ e ∷ more)) (omega arith) q.1)

-- ---- what is begun is a front

least_most : (a : ℕ) → second_byte_min a ≤ second_byte_max a
least_most a =
    elim (eqb a 0xE0) as (λ t. eqb a 0xE0 ≡ t → cond t 0xA0 (cond (eqb a 0xF0) 0x90 0x80) ≤ second_byte_max a) [
      | true ↦ λ e. rw (eqb-true a 0xE0 e) (omega arith)
      | false ↦ λ e. elim (eqb a 0xF0) as (λ t. eqb a 0xF0 ≡ t → cond t 0x90 0x80 ≤ second_byte_max a) [
        | true ↦ λ f. rw (eqb-true a 0xF0 f) (omega arith)
        | false ↦ λ f. elim (eqb a 0xED) as (λ t. 0x80 ≤ cond t 0x9F (cond (eqb a 0xF4) 0x8F 0xBF)) [
          | true ↦ omega arith
          | false ↦ elim (eqb a 0xF4) as (λ t. 0x80 ≤ cond t 0x8F 0xBF) [ true ↦ omega arith | false ↦ omega arith ]
        ]
      ] refl
    ] refl

least_second : (a : ℕ) → is_in_range (second_byte_min a) (second_byte_max a) (second_byte_min a) ≡ true
least_second a = in_range (second_byte_min a) (second_byte_max a) (second_byte_min a) (omega arith) (least_most a)

no_two : (a : ℕ) (bs : List ℕ) → 0xE0 ≤ a → begins_two (a ∷ bs) ≡ false
no_two a bs h = rw (lt-leb a 0xDF (omega arith), le-leb 0xC2 a (omega arith)) refl

no_three : (a : ℕ) (bs : List ℕ) → 0xF0 ≤ a → begins_three (a ∷ bs) ≡ false
no_three a bs h = rw (lt-leb a 0xEF (omega arith), le-leb 0xE0 a (omega arith)) refl

two_is : (a b : ℕ) → is_in_range 0xC2 0xDF a ≡ true → is_later b ≡ true → IsSequence (a ∷ b ∷ [])
unfolding front_width
two_is a b h k = let whole : begins_two (a ∷ b ∷ []) ≡ true = and_from (is_in_range 0xC2 0xDF a) (is_later b) h k in
    (omega arith, rw whole refl)

three_is : (a b c : ℕ) → is_in_range 0xE0 0xEF a ≡ true → is_in_range (second_byte_min a) (second_byte_max a) b ≡ true →
    is_later c ≡ true → IsSequence (a ∷ b ∷ c ∷ [])
unfolding front_width
three_is a b c h s k =
    let lead = (bounds 0xE0 0xEF a h).0 in
    let whole : begins_three (a ∷ b ∷ c ∷ []) ≡ true = three_from (is_in_range 0xE0 0xEF a)
    (is_in_range (second_byte_min a) (second_byte_max a) b) (is_later c) h s k in
    (omega arith, rw (no_two a (b ∷ c ∷ []) lead, whole) refl)

four_is : (a b c d : ℕ) → is_in_range 0xF0 0xF4 a ≡ true → is_in_range (second_byte_min a) (second_byte_max a)
    b ≡ true → is_later c ≡ true → is_later d ≡ true → IsSequence (a ∷ b ∷ c ∷ d ∷ [])
unfolding front_width
four_is a b c d h s k m =
    let lead = (bounds 0xF0 0xF4 a h).0 in
    let whole : begins_four (a ∷ b ∷ c ∷ d ∷ []) ≡ true = four_from (is_in_range 0xF0 0xF4 a)
    (is_in_range (second_byte_min a) (second_byte_max a) b) (is_later c) (is_later d) h s k m in
    (omega arith, rw (no_two a (b ∷ c ∷ d ∷ []) (omega arith), no_three a (b ∷ c ∷ d ∷ []) lead, whole) refl)

abbrev Front : List ℕ → Type 0
Front bs = (0 < length bs) × ((more : List ℕ) × ((0 < length more) × IsSequence (bs ++ more)))

begun_front : (bs : List ℕ) → is_begun bs ≡ true → Front bs
unfolding is_begun
begun_front [] e = absurd (false≢true e)
begun_front (a ∷ []) e =
    let low = (bounds 0xC2 0xF4 a e).0 in
    let high = (bounds 0xC2 0xF4 a e).1 in
    elim (cases_lt a 0xE0) [
      | inl h ↦ (omega arith, (0x80 ∷ [], (omega arith, two_is a 0x80 (in_range 0xC2 0xDF a low (omega arith)) refl)))
      | inr h ↦ elim (cases_lt a 0xF0) [
        | inl k ↦ (
          omega arith,
          (
            second_byte_min a ∷ 0x80 ∷ [],
            (
              omega arith,
              three_is a (second_byte_min a) 0x80 (in_range 0xE0 0xEF a h (omega arith)) (least_second a) refl,
            ),
          ),
        )
        | inr k ↦ (
          omega arith,
          (
            second_byte_min a ∷ 0x80 ∷ 0x80 ∷ [],
            (
              omega arith,
              four_is a (second_byte_min a) 0x80 0x80 (in_range 0xF0 0xF4 a k high) (least_second a) refl
                  refl,
            ),
          ),
        )
      ]
    ]
begun_front (a ∷ b ∷ []) e =
    let p = and_parts (is_in_range 0xE0 0xF4 a) (is_in_range (second_byte_min a) (second_byte_max a) b) e in
    let low = (bounds 0xE0 0xF4 a p.0).0 in
    let high = (bounds 0xE0 0xF4 a p.0).1 in
    elim (cases_lt a 0xF0) [
      | inl k ↦ (
        omega arith,
        (
          0x80 ∷ [],
          (
            omega arith,
            three_is a b 0x80 (in_range 0xE0 0xEF a low (omega arith)) p.1
                refl,
          ),
        ),
      )
      | inr k ↦ (
        omega arith,
        (
          0x80 ∷ 0x80 ∷ [],
          (
            omega arith,
            four_is a b 0x80 0x80 (in_range 0xF0 0xF4 a k high) p.1
                refl refl,
          ),
        ),
      )
    ]
begun_front (a ∷ b ∷ c ∷ []) e =
    let p = three_parts (is_in_range 0xF0 0xF4 a) (is_in_range (second_byte_min a) (second_byte_max a) b) (is_later c)
    e in
    (omega arith, (0x80 ∷ [], (omega arith, four_is a b c 0x80 p.0 p.1 p.2 refl)))
begun_front (a ∷ b ∷ c ∷ d ∷ bs) e = absurd (false≢true e)

pub begun_is_front : (bs : List ℕ) → (is_begun bs ≡ true) ↔ Front bs
begun_is_front bs = (begun_front bs, λ f. front_begun bs f.1.0 f.0 f.1.1.0 f.1.1.1)
