-- Matches keep to the edges of their expression.
use Rattle.std.proofs.Common.{◌≡◌, ℕ, zero, suc, ◌<◌, ◌≤◌, ◌+◌, ◌-◌, ◌==◌, ◌&&◌, Bool, true, false, cond, not, List, []}
use Rattle.std.proofs.Common.{◌∷◌, ◌++◌, length, refl, sym, subst, ◌∙◌, inl, inr, arith}
use Rattle.std.specs.Prelude.{IsTrue, nat_lt, slice_index}
use Rattle.std.proofs.lemmas.Bool.{cases_lt, and_parts, and_from, or_cases, or_left, or_right}
use Rattle.std.proofs.lemmas.Bool.Decides.{nat_tests}
use Rattle.std.proofs.lemmas.List.Folds.{list_any-append}
use Rattle.re_syntax.specs.Tree.{Tree, Letter, AnyLetter, OneOf, LineStart, LineEnd, Then, Either, Many, Several, Maybe}
use Rattle.re_syntax.specs.Tree.{Group}
use Rattle.re_syntax.specs.Match.{Matches, Pieces, one_rune, line_start, line_end, is_in, is_in_class}
use Rattle.re_edges.specs.Runes.{no_runes, has_rune, with_spans, with_class}
use Rattle.re_edges.specs.Edges.{may_be_null, with_runes}
use Rattle.re_edges.specs.Laws.{MatchesKeepToEdges}
use Rattle.re_edges.specs.declared.steps.Side.{Side}
use Rattle.re_edges.specs.declared.steps.Side.TheVariants.{First, Last}
use Rattle.re_edges.specs.declared.runes.RuneSet.{RuneSet}

-- ---- no match ends before it begins

pieces_on : (R : ℕ → ℕ → Type 0) (n i j : ℕ) → Pieces R n i j → i ≤ j
pieces_on R zero i j p = omega arith
pieces_on R (suc n) i j p = omega (arith, p.1, pieces_on R n p.0 j p.3)

one_rune_on : (test : ℕ → Bool) (t : List ℕ) (i j : ℕ) → IsTrue (one_rune test t i j) → j ≡ i + 1
one_rune_on test t i j h = grind (arith, nat_tests)

line_start_on : (t : List ℕ) (i j : ℕ) → IsTrue (line_start t i j) → j ≡ i
line_start_on t i j h = grind (arith, nat_tests)

line_end_on : (t : List ℕ) (i j : ℕ) → IsTrue (line_end t i j) → j ≡ i
line_end_on t i j h = grind (arith, nat_tests)

matches_on : (r : Tree) (t : List ℕ) (i j : ℕ) → Matches r t i j → i ≤ j
matches_on (Letter c) t i j m = omega (arith, one_rune_on (λ d. d == c) t i j m)
matches_on AnyLetter t i j m = omega (arith, one_rune_on (λ d. not (d == 10)) t i j m)
matches_on (OneOf negated spans) t i j m = omega (arith, one_rune_on (is_in_class negated spans) t i j m)
matches_on LineStart t i j m = omega (arith, line_start_on t i j m)
matches_on LineEnd t i j m = omega (arith, line_end_on t i j m)
matches_on (Then a b) t i j m = omega (arith, matches_on a t i m.0 m.1, matches_on b t m.0 j m.2)
matches_on (Either a b) t i j m = elim m [ inl x ↦ matches_on a t i j x | inr y ↦ matches_on b t i j y ]
matches_on (Many a) t i j m = pieces_on (Matches a t) m.0 i j m.1
matches_on (Several a) t i j m = omega (arith, matches_on a t i m.0 m.1, pieces_on (Matches a t) m.2.0 m.0 j m.2.1)
matches_on (Maybe a) t i j m = elim m [ inl x ↦ matches_on a t i j x | inr e ↦ omega arith ]
matches_on (Group n a) t i j m = matches_on a t i j m

-- ---- null matches

null_is : (r : Tree) (t : List ℕ) (i j : ℕ) → Matches r t i j → j ≡ i → may_be_null r ≡ true
null_is (Letter c) t i j m e = absurd (omega (arith, e, one_rune_on (λ d. d == c) t i j m))
null_is AnyLetter t i j m e = absurd (omega (arith, e, one_rune_on (λ d. not (d == 10)) t i j m))
null_is (OneOf negated spans) t i j m e = absurd (omega (arith, e, one_rune_on (is_in_class negated spans) t i j m))
null_is LineStart t i j m e = refl
null_is LineEnd t i j m e = refl
null_is (Then a b) t i j m e =
    let low = matches_on a t i m.0 m.1 in
    let high = matches_on b t m.0 j m.2 in
    and_from (may_be_null a) (may_be_null b) (null_is a t i m.0 m.1 (omega (arith, e, low, high)))
    (null_is b t m.0 j m.2 (omega (arith, e, low, high)))
null_is (Either a b) t i j m e = elim m [
  | inl x ↦ or_left (may_be_null a) (may_be_null b) (null_is a t i j x e)
  | inr y ↦ or_right (may_be_null a) (may_be_null b) (null_is b t i j y e)
]
null_is (Many a) t i j m e = refl
null_is (Several a) t i j m e = null_is a t i m.0 m.1 (omega (
  arith,
  e,
  matches_on a t i m.0 m.1,
  pieces_on (Matches a t) m.2.0 m.0 j m.2.1,
))
null_is (Maybe a) t i j m e = refl
null_is (Group n a) t i j m e = null_is a t i j m e

-- ---- sets of runes

has_more : (s : RuneSet) (spans : List (ℕ × ℕ)) (c : ℕ) → has_rune s c ≡ true → has_rune (with_spans s spans) c ≡ true
has_more s spans c h = elim (or_cases s.every (is_in s.spans c) h) [
  | inl e ↦ or_left s.every (is_in (s.spans ++ spans) c) e
  | inr e ↦ or_right s.every (is_in (s.spans ++ spans) c) (list_any-append _ s.spans spans
      ∙ or_left (is_in s.spans c) (is_in spans c) e)
]

has_these : (s : RuneSet) (spans : List (ℕ × ℕ)) (c : ℕ) → is_in spans c ≡ true → has_rune (with_spans s spans) c ≡ true
has_these s spans c h = or_right s.every (is_in (s.spans ++ spans) c)
    (list_any-append _ s.spans spans ∙ or_right (is_in s.spans c) (is_in spans c) h)

class_more : (negated : Bool) (spans : List (ℕ × ℕ)) (s : RuneSet) (c : ℕ)
    → has_rune s c ≡ true → has_rune (with_class negated spans s) c ≡ true
class_more true spans s c h = refl
class_more false spans s c h = has_more s spans c h

class_has : (negated : Bool) (spans : List (ℕ × ℕ)) (s : RuneSet) (c : ℕ)
    → is_in_class negated spans c ≡ true → has_rune (with_class negated spans s) c ≡ true
class_has true spans s c h = refl
class_has false spans s c h = has_these s spans c h

letter_in : (c d : ℕ) → (d == c) ≡ true → is_in ((c, c) ∷ []) d ≡ true
letter_in c d h = grind (arith, nat_tests)

-- one of two sets is taken, and both have the rune
either_has : (b : Bool) (s u : RuneSet) (c : ℕ) → has_rune s c ≡ true → has_rune u c ≡ true → has_rune (cond b s u)
    c ≡ true
either_has true s u c h g = h
either_has false s u c h g = g

-- the set that is taken where a part may be null
null_has : (b : Bool) (s u : RuneSet) (c : ℕ) → b ≡ true → has_rune s c ≡ true → has_rune (cond b s u) c ≡ true
null_has true s u c e h = h
null_has false s u c e h = absurd cc

grows : (side : Side) (r : Tree) (s : RuneSet) (c : ℕ) → has_rune s c ≡ true → has_rune (with_runes side r s) c ≡ true
grows side (Letter d) s c h = has_more s ((d, d) ∷ []) c h
grows side AnyLetter s c h = refl
grows side (OneOf negated spans) s c h = class_more negated spans s c h
grows side LineStart s c h = h
grows side LineEnd s c h = h
grows First (Then a b) s c h =
    let near = grows First a s c h in
    either_has (may_be_null a) (with_runes First b (with_runes First a s)) (with_runes First a s) c
    (grows First b (with_runes First a s) c near) near
grows Last (Then a b) s c h =
    let near = grows Last b s c h in
    either_has (may_be_null b) (with_runes Last a (with_runes Last b s)) (with_runes Last b s) c
    (grows Last a (with_runes Last b s) c near) near
grows side (Either a b) s c h = grows side b (with_runes side a s) c (grows side a s c h)
grows side (Many a) s c h = grows side a s c h
grows side (Several a) s c h = grows side a s c h
grows side (Maybe a) s c h = grows side a s c h
grows side (Group n a) s c h = grows side a s c h

-- ---- the rune at a side of a span

abbrev at : Side → ℕ → ℕ → ℕ
at First i j = i
at Last i j = j - 1

passes : (test : ℕ → Bool) (t : List ℕ) (i j : ℕ) → IsTrue (one_rune test t i j) → test (slice_index t i) ≡ true
passes test t i j h = (and_parts (nat_lt i (length t) && (j == i + 1)) (test (slice_index t i)) h).1

rune_of : (side : Side) (test : ℕ → Bool) (t : List ℕ) (i j : ℕ) → IsTrue (one_rune test t i j)
    → test (slice_index t (at side i j)) ≡ true
rune_of First test t i j h = passes test t i j h
rune_of Last test t i j h =
    let e : i ≡ j - 1 = omega (arith, one_rune_on test t i j h) in
    subst (λ (k : ℕ). test (slice_index t k) ≡ true) e (passes test t i j h)

-- what holds at a side of each piece that isn't null holds there of pieces one after another
pieces_at : (side : Side) (P : ℕ → Type 0) (R : ℕ → ℕ → Type 0) → ((i j : ℕ) → R i j → i < j → P (at side i j))
    → (n i j : ℕ) → Pieces R n i j → i < j → P (at side i j)
pieces_at side P R holds zero i j p l = absurd (omega (arith, p, l))
pieces_at First P R holds (suc n) i j p l = holds i p.0 p.2 p.1
pieces_at Last P R holds (suc zero) i j p l = subst (λ (k : ℕ). P (k - 1)) (sym p.3) (holds i p.0 p.2 p.1)
pieces_at Last P R holds (suc (suc n)) i j p l = pieces_at Last P R holds (suc n) p.0 j p.3
    (omega (arith, p.3.1, pieces_on R n p.3.0 j p.3.3))

keeps : (side : Side) (r : Tree) (t : List ℕ) (i j : ℕ) (s : RuneSet) → Matches r t i j → i < j
    → has_rune (with_runes side r s) (slice_index t (at side i j)) ≡ true
keeps side (Letter c) t i j s m l =
    let d = slice_index t (at side i j) in
    has_these s ((c, c) ∷ []) d (letter_in c d (rune_of side (λ d. d == c) t i j m))
keeps side AnyLetter t i j s m l = refl
keeps side (OneOf negated spans) t i j s m l = class_has negated spans s (slice_index t (at side i j))
    (rune_of side (is_in_class negated spans) t i j m)
keeps side LineStart t i j s m l = absurd (omega (arith, l, line_start_on t i j m))
keeps side LineEnd t i j s m l = absurd (omega (arith, l, line_end_on t i j m))
keeps First (Then a b) t i j s m l = elim (cases_lt i m.0) [
  | inl near ↦
      let h = keeps First a t i m.0 s m.1 near in
      either_has (may_be_null a) (with_runes First b (with_runes First a s)) (with_runes First a s) (slice_index t i)
      (grows First b (with_runes First a s) (slice_index t i) h) h
  | inr none ↦
      let same : m.0 ≡ i = omega (arith, none, matches_on a t i m.0 m.1) in
      let h = keeps First b t m.0 j (with_runes First a s) m.2 (omega (arith, same, l)) in
      null_has (may_be_null a) (with_runes First b (with_runes First a s)) (with_runes First a s) (slice_index t i)
      (null_is a t i m.0 m.1 same) (subst (λ (k : ℕ). has_rune (with_runes First b (with_runes First a s))
      (slice_index t k) ≡ true) same h)
]
keeps Last (Then a b) t i j s m l = elim (cases_lt m.0 j) [
  | inl near ↦
      let h = keeps Last b t m.0 j s m.2 near in
      either_has (may_be_null b) (with_runes Last a (with_runes Last b s)) (with_runes Last b s) (slice_index t (j - 1))
      (grows Last a (with_runes Last b s) (slice_index t (j - 1)) h) h
  | inr none ↦
      let same : j ≡ m.0 = omega (arith, none, matches_on b t m.0 j m.2) in
      let h = keeps Last a t i m.0 (with_runes Last b s) m.1 (omega (arith, same, l)) in
      null_has (may_be_null b) (with_runes Last a (with_runes Last b s)) (with_runes Last b s) (slice_index t (j - 1))
      (null_is b t m.0 j m.2 same) (subst (λ (k : ℕ). has_rune (with_runes Last a (with_runes Last b s))
      (slice_index t (k - 1)) ≡ true) (sym same) h)
]
keeps side (Either a b) t i j s m l = elim m [
  | inl x ↦ grows side b (with_runes side a s) (slice_index t (at side i j)) (keeps side a t i j s x l)
  | inr y ↦ keeps side b t i j (with_runes side a s) y l
]
keeps side (Many a) t i j s m l = pieces_at side (λ k. has_rune (with_runes side a s) (slice_index t k) ≡ true)
    (Matches a t) (λ i j m l. keeps side a t i j s m l) m.0 i j m.1 l
keeps First (Several a) t i j s m l = elim (cases_lt i m.0) [
  | inl near ↦ keeps First a t i m.0 s m.1 near
  | inr none ↦
      let same : m.0 ≡ i = omega (arith, none, matches_on a t i m.0 m.1) in
      subst (λ (k : ℕ). has_rune (with_runes First a s) (slice_index t k) ≡ true) same
      (pieces_at First (λ k. has_rune (with_runes First a s) (slice_index t k) ≡ true) (Matches a t)
      (λ i j m l. keeps First a t i j s m l) m.2.0 m.0 j m.2.1 (omega (arith, same, l)))
]
keeps Last (Several a) t i j s m l = elim (cases_lt m.0 j) [
  | inl near ↦ pieces_at Last (λ k. has_rune (with_runes Last a s) (slice_index t k) ≡ true) (Matches a t)
      (λ i j m l. keeps Last a t i j s m l) m.2.0 m.0 j m.2.1 near
  | inr none ↦
      let same : m.0 ≡ j = omega (arith, none, pieces_on (Matches a t) m.2.0 m.0 j m.2.1) in
      subst (λ (k : ℕ). has_rune (with_runes Last a s) (slice_index t (k - 1)) ≡ true) same
      (keeps Last a t i m.0 s m.1 (omega (arith, same, l)))
]
keeps side (Maybe a) t i j s m l = elim m [
  | inl x ↦ keeps side a t i j s x l
  | inr e ↦ absurd (omega (arith, e, l))
]
keeps side (Group n a) t i j s m l = keeps side a t i j s m l

pub keep_to_edges : MatchesKeepToEdges
keep_to_edges r [] m = null_is r [] 0 0 m refl
keep_to_edges r (c ∷ cs) m =
    let t = c ∷ cs in
    let some : 0 < length t = omega arith in
    and_from (has_rune (with_runes First r no_runes) c) (has_rune (with_runes Last r no_runes)
    (slice_index t (length cs))) (keeps First r t 0 (length t) no_runes m some)
    (last_is (keeps Last r t 0 (length t) no_runes m some))
  where
    last_is : has_rune (with_runes Last r no_runes) (slice_index (c ∷ cs) (length (c ∷ cs) - 1)) ≡ true →
        has_rune (with_runes Last r no_runes) (slice_index (c ∷ cs) (length cs)) ≡ true
    last_is h = let e : length (c ∷ cs) - 1 ≡ length cs = omega arith in
        subst (λ (k : ℕ). has_rune (with_runes Last r no_runes) (slice_index (c ∷ cs) k) ≡ true) e h
