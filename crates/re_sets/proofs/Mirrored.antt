-- A text read forward is the text; read backward it is the mirror of it.
use Rattle.std.proofs.Common.{◌≡◌, ℕ, zero, suc, ◌+◌, ◌-◌, ◌<◌, ◌≤◌, ◌⊎◌, ◌==◌, ◌&&◌, ◌||◌, Bool, true, false, not}
use Rattle.std.proofs.Common.{List, length, refl, sym, subst, inl, inr, arith}
use Rattle.std.specs.Prelude.{IsTrue, ◌↔◌, slice_index, nat_lt}
use Rattle.std.proofs.lemmas.Bool.{cases_lt}
use Rattle.std.proofs.lemmas.Bool.Decides.{nat_tests}
use Rattle.re_syntax.specs.Tree.{Tree, Letter, AnyLetter, OneOf, LineStart, LineEnd, Then, Either, Many, Several, Maybe}
use Rattle.re_syntax.specs.Tree.{Group}
use Rattle.re_syntax.specs.Match.{Matches, Repeats, Pieces, Joins, one_rune, line_start, line_end}
use Rattle.re_spans.specs.Leaves.{takes, is_null, here_at}
use Rattle.re_sets.specs.Readings.{Reading, Spans, Rune, Null, forward, backward, mirrored, read_as}
use Rattle.re_sets.specs.Numbers.{letters}
use Rattle.re_sets.proofs.Going.{both, and_true, Spans-on, Pieces-on}

-- ---- pieces

abbrev pub LeadsOn : (ℕ → ℕ → Type 0) → Type 0
LeadsOn R = (i j : ℕ) → R i j → i ≤ j

repeats_put : (R : ℕ → ℕ → Type 0) (n i k j : ℕ) → Pieces R n i k → Repeats R k j → Repeats R i j
repeats_put R zero i k j p r = subst (λ (x : ℕ). Repeats R x j) p r
repeats_put R (suc n) i k j p r = let rest = repeats_put R n p.0 k j p.3 r in (suc rest.0, (p.0, p.1, p.2, rest.1))

one_repeats : (R : ℕ → ℕ → Type 0) → LeadsOn R → (i j : ℕ) → R i j → Repeats R i j
one_repeats R on i j r =
    elim (cases_lt i j) [
      | inl l ↦ (1, (j, l, r, refl))
      | inr m ↦ (zero, omega (arith, on i j r))
    ]

repeats_then : (R : ℕ → ℕ → Type 0) → LeadsOn R → (i k j : ℕ) → Repeats R i k → R k j → Repeats R i j
repeats_then R on i k j p r = repeats_put R p.0 i k j p.1 (one_repeats R on k j r)

first_again : (R : ℕ → ℕ → Type 0) → LeadsOn R → (i j : ℕ) → Joins (Repeats R) R i j → Joins R (Repeats R) i j
first_again R on i j p = go p.1.0 p.1.1
  where
    go : (n : ℕ) → Pieces R n i p.0 → Joins R (Repeats R) i j
    go zero e = (j, subst (λ (x : ℕ). R x j) e p.2, (zero, refl))
    go (suc n) q = (q.0, q.2, repeats_then R on q.0 p.0 j (n, q.3) p.2)

again_first : (R : ℕ → ℕ → Type 0) → LeadsOn R → (n i k j : ℕ) → R i k → Pieces R n k j → Joins (Repeats R) R i j
again_first R on zero i k j r p = (i, (zero, refl), subst (λ (x : ℕ). R i x) (sym p) r)
again_first R on (suc n) i k j r p =
    let rest = again_first R on n k p.0 j p.2 p.3 in
    let one = one_repeats R on i k r in
    (rest.0, repeats_put R one.0 i k rest.0 one.1 rest.1, rest.2)

pieces_same : (R S : ℕ → ℕ → Type 0) → ((i j : ℕ) → R i j → S i j) → (n i j : ℕ) → Pieces R n i j → Pieces S n i j
pieces_same R S f zero i j p = p
pieces_same R S f (suc n) i j p = (p.0, p.1, f i p.0 p.2, pieces_same R S f n p.0 j p.3)

-- ---- forward

rune_is : (f : ℕ → Bool) (t : List ℕ) (i j : ℕ) → IsTrue (one_rune f t i j) ↔ Rune f (forward t) i j
rune_is f t i j = (
  λ h.
      let x = both (nat_lt i (length t) && (j == i + 1)) (f (slice_index t i)) h in
      let y = both (nat_lt i (length t)) (j == i + 1) x.0 in
      (grind (arith, nat_tests, y.1), grind (arith, nat_tests, y.0), x.1),
  λ s. and_true (nat_lt i (length t) && (j == i + 1)) (f (slice_index t i))
      (and_true (nat_lt i (length t)) (j == i + 1) (grind (arith, nat_tests, s.1)) (grind (arith, nat_tests, s.0))) s.2,
)

start_is : (b c : Bool) (i j : ℕ) → IsTrue ((j == i) && b && c) ↔ Null (b && c) i j
start_is b c i j = (
  λ h.
      let x = both ((j == i) && b) c h in
      let y = both (j == i) b x.0 in
      (grind (arith, nat_tests, y.0), and_true b c y.1 x.1),
  λ z.
      let x = both b c z.1 in
      and_true ((j == i) && b) c (and_true (j == i) b (grind (arith, nat_tests, z.0)) x.0) x.1,
)

null_is : (b : Bool) (i j : ℕ) → IsTrue ((j == i) && b) ↔ Null b i j
null_is b i j = (
  λ h. let x = both (j == i) b h in (grind (arith, nat_tests, x.0), x.1),
  λ z. and_true (j == i) b (grind (arith, nat_tests, z.0)) z.1,
)

pub forward_is : (r : Tree) (t : List ℕ) (i j : ℕ) → Matches r t i j ↔ Spans r (forward t) i j
forward_is (Letter c) t i j = rune_is (takes (Letter c)) t i j
forward_is AnyLetter t i j = rune_is (takes AnyLetter) t i j
forward_is (OneOf negated spans) t i j = rune_is (takes (OneOf negated spans)) t i j
forward_is LineStart t i j = start_is (nat_lt i (length t)) ((i == 0) || (slice_index t (i - 1) == 10)) i j
forward_is LineEnd t i j = null_is (is_null LineEnd (here_at t i)) i j
forward_is (Then a b) t i j = (
  λ p. (p.0, (forward_is a t i p.0).0 p.1, (forward_is b t p.0 j).0 p.2),
  λ p. (p.0, (forward_is a t i p.0).1 p.1, (forward_is b t p.0 j).1 p.2),
)
forward_is (Either a b) t i j = (
  λ h. elim h [ inl x ↦ inl ((forward_is a t i j).0 x) | inr y ↦ inr ((forward_is b t i j).0 y) ],
  λ h. elim h [ inl x ↦ inl ((forward_is a t i j).1 x) | inr y ↦ inr ((forward_is b t i j).1 y) ],
)
forward_is (Many a) t i j = (
  λ p. (p.0, pieces_same (Matches a t) (Spans a (forward t)) (λ x y. (forward_is a t x y).0) p.0 i j p.1),
  λ p. (p.0, pieces_same (Spans a (forward t)) (Matches a t) (λ x y. (forward_is a t x y).1) p.0 i j p.1),
)
forward_is (Several a) t i j = (
  λ p. (
    p.0,
    (forward_is a t i p.0).0 p.1,
    (
      p.2.0,
      pieces_same (Matches a t) (Spans a (forward t))
          (λ x y. (forward_is a t x y).0) p.2.0 p.0 j p.2.1,
    ),
  ),
  λ p. (
    p.0,
    (forward_is a t i p.0).1 p.1,
    (
      p.2.0,
      pieces_same (Spans a (forward t)) (Matches a t)
          (λ x y. (forward_is a t x y).1) p.2.0 p.0 j p.2.1,
    ),
  ),
)
forward_is (Maybe a) t i j = (
  λ h. elim h [ inl x ↦ inl ((forward_is a t i j).0 x) | inr y ↦ inr y ],
  λ h. elim h [ inl x ↦ inl ((forward_is a t i j).1 x) | inr y ↦ inr y ],
)
forward_is (Group n a) t i j = forward_is a t i j

-- ---- backward

-- the spans of the one, counted from the end, are those of the other
abbrev pub Mirrors : ℕ → (ℕ → ℕ → Type 0) → (ℕ → ℕ → Type 0) → Type 0
Mirrors n R S = (i j x y : ℕ) → i + x ≡ n → j + y ≡ n → R i j ↔ S y x

mirror_back : (n : ℕ) (R S : ℕ → ℕ → Type 0) → Mirrors n R S → Mirrors n S R
mirror_back n R S m i j x y e f =
    let p = m y x j i (omega (arith, f)) (omega (arith, e)) in (p.1, p.0)

joins_to : (n : ℕ) (A B C D : ℕ → ℕ → Type 0) → LeadsOn A → LeadsOn B → Mirrors n A C → Mirrors n B D → (i j x y : ℕ)
    → i + x ≡ n → j + y ≡ n → Joins A B i j → Joins D C y x
joins_to n A B C D on_a on_b a b i j x y e f p =
    let inside : p.0 ≤ j = on_b p.0 j p.2 in
    let sum : p.0 + (n - p.0) ≡ n = omega (arith, inside, f) in
    (n - p.0, (b p.0 j (n - p.0) y sum f).0 p.2, (a i p.0 x (n - p.0) e sum).0 p.1)

joins_mirror : (n : ℕ) (A B C D : ℕ → ℕ → Type 0) → LeadsOn A → LeadsOn B → LeadsOn C → LeadsOn D → Mirrors n A C
    → Mirrors n B D → Mirrors n (Joins A B) (Joins D C)
joins_mirror n A B C D on_a on_b on_c on_d a b i j x y e f = (
  joins_to n A B C D on_a on_b a b i j x y e f,
  joins_to n D C B A on_d on_c (mirror_back n B D b) (mirror_back n A C a) y x j i (omega (arith, f))
      (omega (arith, e)),
)

pieces_mirror : (n : ℕ) (A C : ℕ → ℕ → Type 0) → LeadsOn A → LeadsOn C → Mirrors n A C → (m i j x y : ℕ)
    → i + x ≡ n → j + y ≡ n → Pieces A m i j → Repeats C y x
pieces_mirror n A C on_a on_c a zero i j x y e f p = (zero, omega (arith, e, f, p))
pieces_mirror n A C on_a on_c a (suc m) i j x y e f p =
    let inside : p.0 ≤ j = Pieces-on A on_a m p.0 j p.3 in
    let sum : p.0 + (n - p.0) ≡ n = omega (arith, inside, f) in
    repeats_then C on_c y (n - p.0) x (pieces_mirror n A C on_a on_c a m p.0 j (n - p.0) y sum f p.3)
    ((a i p.0 x (n - p.0) e sum).0 p.2)

repeats_mirror : (n : ℕ) (A C : ℕ → ℕ → Type 0) → LeadsOn A → LeadsOn C → Mirrors n A C
    → Mirrors n (Repeats A) (Repeats C)
repeats_mirror n A C on_a on_c a i j x y e f = (
  λ p. pieces_mirror n A C on_a on_c a p.0 i j x y e f p.1,
  λ p. pieces_mirror n C A on_c on_a (mirror_back n A C a) p.0 y x j i (omega (arith, f)) (omega (arith, e)) p.1,
)

rune_mirror : (f : ℕ → Bool) (t : List ℕ) → Mirrors (length t) (Rune f (forward t)) (Rune f (backward t))
rune_mirror f t i j x y e g = (
  λ s.
      let same : length t - (y + 1) ≡ i = omega (arith, e, g, s.0) in
      (omega (arith, e, g, s.0), omega (arith, g, s.0), subst (λ (z : ℕ). IsTrue (f (slice_index t z))) (sym same) s.2),
  λ s.
      let same : length t - (y + 1) ≡ i = omega (arith, e, g, s.0) in
      (omega (arith, e, g, s.0), omega (arith, e, g, s.0), subst (λ (z : ℕ). IsTrue (f (slice_index t z))) same s.2),
)

null_mirror : (r : Tree) (t : List ℕ) → Mirrors (length t) (λ i j. Null (is_null r (here_at t i)) i j)
    (λ y x. Null (is_null r (here_at t (length t - y))) y x)
null_mirror r t i j x y e g = (
  λ s.
      let same : length t - y ≡ i = omega (arith, e, g, s.0) in
      (omega (arith, e, g, s.0), subst (λ (z : ℕ). IsTrue (is_null r (here_at t z))) (sym same) s.1),
  λ s.
      let same : length t - y ≡ i = omega (arith, e, g, s.0) in
      (omega (arith, e, g, s.0), subst (λ (z : ℕ). IsTrue (is_null r (here_at t z))) same s.1),
)

Repeats-on : (R : ℕ → ℕ → Type 0) → LeadsOn R → LeadsOn (Repeats R)
Repeats-on R on i j p = Pieces-on R on p.0 i j p.1

mirror_is : (r : Tree) (t : List ℕ) → Mirrors (length t) (Spans r (forward t)) (Spans (mirrored r) (backward t))
mirror_is (Letter c) t i j x y e f = rune_mirror (takes (Letter c)) t i j x y e f
mirror_is AnyLetter t i j x y e f = rune_mirror (takes AnyLetter) t i j x y e f
mirror_is (OneOf negated spans) t i j x y e f = rune_mirror (takes (OneOf negated spans)) t i j x y e f
mirror_is LineStart t i j x y e f = null_mirror LineStart t i j x y e f
mirror_is LineEnd t i j x y e f = null_mirror LineEnd t i j x y e f
mirror_is (Then a b) t i j x y e f =
    joins_mirror (length t) (Spans a (forward t)) (Spans b (forward t)) (Spans (mirrored a) (backward t))
    (Spans (mirrored b) (backward t)) (Spans-on a (forward t)) (Spans-on b (forward t))
    (Spans-on (mirrored a) (backward t)) (Spans-on (mirrored b) (backward t)) (mirror_is a t) (mirror_is b t) i j x
    y e f
mirror_is (Either a b) t i j x y e f = (
  λ h. elim h [ inl p ↦ inl ((mirror_is a t i j x y e f).0 p) | inr q ↦ inr ((mirror_is b t i j x y e f).0 q) ],
  λ h. elim h [ inl p ↦ inl ((mirror_is a t i j x y e f).1 p) | inr q ↦ inr ((mirror_is b t i j x y e f).1 q) ],
)
mirror_is (Many a) t i j x y e f =
    repeats_mirror (length t) (Spans a (forward t)) (Spans (mirrored a) (backward t)) (Spans-on a (forward t))
    (Spans-on (mirrored a) (backward t)) (mirror_is a t) i j x y e f
mirror_is (Several a) t i j x y e f =
    let A = Spans a (forward t) in
    let C = Spans (mirrored a) (backward t) in
    let on_a : LeadsOn (Spans a (forward t)) = Spans-on a (forward t) in
    let on_c : LeadsOn (Spans (mirrored a) (backward t)) = Spans-on (mirrored a) (backward t) in
    let m = joins_mirror (length t) A (Repeats A) C (Repeats C) on_a (Repeats-on A on_a) on_c (Repeats-on C on_c)
    (mirror_is a t) (repeats_mirror (length t) A C on_a on_c (mirror_is a t)) i j x y e f in (
      λ p. first_again C on_c y x (m.0 p),
      λ p. m.1 (again_first C on_c p.2.0 y p.0 x p.1 p.2.1),
    )
mirror_is (Maybe a) t i j x y e f = (
  λ h. elim h [ inl p ↦ inl ((mirror_is a t i j x y e f).0 p) | inr q ↦ inr (omega (arith, e, f, q)) ],
  λ h. elim h [ inl p ↦ inl ((mirror_is a t i j x y e f).1 p) | inr q ↦ inr (omega (arith, e, f, q)) ],
)
mirror_is (Group n a) t i j x y e f = mirror_is a t i j x y e f

pub backward_is : (r : Tree) (t : List ℕ) (i j : ℕ) → i ≤ length t → j ≤ length t
    → Matches r t i j ↔ Spans (mirrored r) (backward t) (length t - j) (length t - i)
backward_is r t i j a b =
    let m = mirror_is r t i j (length t - i) (length t - j) (omega (arith, a)) (omega (arith, b)) in (
      λ p. m.0 ((forward_is r t i j).0 p),
      λ p. (forward_is r t i j).1 (m.1 p),
    )

pub Matches-on : (r : Tree) (t : List ℕ) (i j : ℕ) → Matches r t i j → i ≤ j
Matches-on r t i j m = Spans-on r (forward t) i j ((forward_is r t i j).0 m)

-- ---- the tree as it is read

pub read_back : (r : Tree) → read_as true r ≡ mirrored r
read_back (Letter c) = refl
read_back AnyLetter = refl
read_back (OneOf negated spans) = refl
read_back LineStart = refl
read_back LineEnd = refl
read_back (Then a b) = cc (read_back a, read_back b)
read_back (Either a b) = cc (read_back a, read_back b)
read_back (Many a) = cc (read_back a)
read_back (Several a) = cc (read_back a)
read_back (Maybe a) = cc (read_back a)
read_back (Group n a) = cc (read_back a)

pub read_on : (r : Tree) → read_as false r ≡ r
read_on (Letter c) = refl
read_on AnyLetter = refl
read_on (OneOf negated spans) = refl
read_on LineStart = refl
read_on LineEnd = refl
read_on (Then a b) = cc (read_on a, read_on b)
read_on (Either a b) = cc (read_on a, read_on b)
read_on (Many a) = cc (read_on a)
read_on (Several a) = cc (read_on a)
read_on (Maybe a) = cc (read_on a)
read_on (Group n a) = cc (read_on a)

pub read_letters : (b : Bool) (r : Tree) → letters (read_as b r) ≡ letters r
read_letters b (Letter c) = refl
read_letters b AnyLetter = refl
read_letters b (OneOf negated spans) = refl
read_letters b LineStart = refl
read_letters b LineEnd = refl
read_letters true (Then x y) = omega (arith, read_letters true x, read_letters true y)
read_letters false (Then x y) = omega (arith, read_letters false x, read_letters false y)
read_letters b (Either x y) = omega (arith, read_letters b x, read_letters b y)
read_letters b (Many a) = read_letters b a
read_letters b (Several a) = read_letters b a
read_letters b (Maybe a) = read_letters b a
read_letters b (Group n a) = read_letters b a
