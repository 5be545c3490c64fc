-- No match ends before it begins; pieces one after another.
use Rattle.std.proofs.Common.{◌≡◌, ℕ, zero, suc, ◌<◌, ◌≤◌, ◌⊎◌, ◌==◌, Bool, not, List, refl, sym, subst, inl, inr}
use Rattle.std.proofs.Common.{arith}
use Rattle.std.specs.Prelude.{IsTrue}
use Rattle.std.proofs.lemmas.Bool.{cases_lt}
use Rattle.std.proofs.lemmas.Bool.Decides.{nat_tests}
use Rattle.re_syntax.specs.Tree.{Tree, Letter, AnyLetter, OneOf, LineStart, LineEnd, Then, Either, Many, Several, Maybe}
use Rattle.re_syntax.specs.Tree.{Group}
use Rattle.re_syntax.specs.Match.{Matches, Pieces, Repeats, Joins, one_rune, line_start, line_end, is_in_class}

-- ---- no match ends before it begins

abbrev pub LeadsOn : (ℕ → ℕ → Type 0) → Type 0
LeadsOn R = (i j : ℕ) → R i j → i ≤ j

pub Pieces-on : (R : ℕ → ℕ → Type 0) (n i j : ℕ) → Pieces R n i j → i ≤ j
Pieces-on R zero i j p = omega arith
Pieces-on R (suc n) i j p = omega (arith, p.1, Pieces-on R n p.0 j p.3)

pub Repeats-on : (R : ℕ → ℕ → Type 0) → LeadsOn (Repeats R)
Repeats-on R i j p = Pieces-on R p.0 i j p.1

pub Joins-on : (R S : ℕ → ℕ → Type 0) → LeadsOn R → LeadsOn S → LeadsOn (Joins R S)
Joins-on R S on_r on_s i j p = omega (arith, on_r i p.0 p.1, on_s p.0 j p.2)

one_rune-on : (test : ℕ → Bool) (t : List ℕ) (i j : ℕ) → IsTrue (one_rune test t i j) → i ≤ j
one_rune-on test t i j h = grind (arith, nat_tests)

line_start-on : (t : List ℕ) (i j : ℕ) → IsTrue (line_start t i j) → i ≤ j
line_start-on t i j h = grind (arith, nat_tests)

line_end-on : (t : List ℕ) (i j : ℕ) → IsTrue (line_end t i j) → i ≤ j
line_end-on t i j h = grind (arith, nat_tests)

pub Matches-on : (r : Tree) (t : List ℕ) → LeadsOn (Matches r t)
Matches-on (Letter c) t i j m = one_rune-on (λ d. d == c) t i j m
Matches-on AnyLetter t i j m = one_rune-on (λ d. not (d == 10)) t i j m
Matches-on (OneOf negated spans) t i j m = one_rune-on (is_in_class negated spans) t i j m
Matches-on LineStart t i j m = line_start-on t i j m
Matches-on LineEnd t i j m = line_end-on t i j m
Matches-on (Then a b) t i j m = omega (arith, Matches-on a t i m.0 m.1, Matches-on b t m.0 j m.2)
Matches-on (Either a b) t i j m = elim m [ inl x ↦ Matches-on a t i j x | inr y ↦ Matches-on b t i j y ]
Matches-on (Many a) t i j m = Pieces-on (Matches a t) m.0 i j m.1
Matches-on (Several a) t i j m = omega (arith, Matches-on a t i m.0 m.1, Pieces-on (Matches a t) m.2.0 m.0 j m.2.1)
Matches-on (Maybe a) t i j m = elim m [ inl x ↦ Matches-on a t i j x | inr e ↦ omega arith ]
Matches-on (Group n a) t i j m = Matches-on a t i j m

-- ---- pieces

pub repeats_put : (R : ℕ → ℕ → Type 0) (n i k j : ℕ) → Pieces R n i k → Repeats R k j → Repeats R i j
repeats_put R zero i k j p r = subst (λ (x : ℕ). Repeats R x j) p r
repeats_put R (suc n) i k j p r = let rest = repeats_put R n p.0 k j p.3 r in (suc rest.0, (p.0, p.1, p.2, rest.1))

-- one piece is a repetition
pub one_repeats : (R : ℕ → ℕ → Type 0) → LeadsOn R → (i j : ℕ) → R i j → Repeats R i j
one_repeats R on i j r =
    elim (cases_lt i j) [
      | inl l ↦ (1, (j, l, r, refl))
      | inr m ↦ (zero, omega (arith, on i j r))
    ]

pub joined_repeats : (R : ℕ → ℕ → Type 0) → LeadsOn R → (i j : ℕ) → Joins R (Repeats R) i j → Repeats R i j
joined_repeats R on i j p = let one = one_repeats R on i p.0 p.1 in repeats_put R one.0 i p.0 j one.1 p.2

-- what is not null has a first piece
pub repeats_joined : (R : ℕ → ℕ → Type 0) (i j : ℕ) → i < j → Repeats R i j → Joins R (Repeats R) i j
repeats_joined R i j l r = go r.0 r.1
  where
    go : (n : ℕ) → Pieces R n i j → Joins R (Repeats R) i j
    go zero e = absurd (omega arith)
    go (suc n) p = (p.0, p.2, (n, p.3))

-- one piece more at the end
pub repeats_then : (R : ℕ → ℕ → Type 0) (i k j : ℕ) → Repeats R i k → k < j → R k j → Repeats R i j
repeats_then R i k j p l r = repeats_put R p.0 i k j p.1 (1, (j, l, r, refl))

-- the last piece
pieces_last : (R : ℕ → ℕ → Type 0) (n i j : ℕ) → Pieces R n i j → (i ≡ j) ⊎ ((k : ℕ) × Repeats R i k × (k < j) × R k j)
pieces_last R zero i j p = inl (sym p)
pieces_last R (suc n) i j p =
    elim (pieces_last R n p.0 j p.3) [
      | inl e ↦ inr (i, (zero, refl), subst (λ (x : ℕ). i < x) e p.1, subst (λ (x : ℕ). R i x) e p.2)
      | inr q ↦ inr (q.0, (suc q.1.0, (p.0, p.1, p.2, q.1.1)), q.2, q.3)
    ]

pub repeats_last : (R : ℕ → ℕ → Type 0) (i j : ℕ) → Repeats R i j → (i ≡ j)
    ⊎ ((k : ℕ) × Repeats R i k × (k < j) × R k j)
repeats_last R i j r = pieces_last R r.0 i j r.1

pub repeats_first : (R : ℕ → ℕ → Type 0) (i j : ℕ) → Repeats R i j → (j ≡ i)
    ⊎ ((k : ℕ) × (i < k) × R i k × Repeats R k j)
repeats_first R i j r = go r.0 r.1
  where
    go : (n : ℕ) → Pieces R n i j → (j ≡ i) ⊎ ((k : ℕ) × (i < k) × R i k × Repeats R k j)
    go zero e = inl e
    go (suc n) p = inr (p.0, p.1, p.2, (n, p.3))
