-- Where the matches of parts end of which a look tells it.
use Rattle.std.proofs.Common.{◌≡◌, ℕ, zero, suc, ◌+◌, ◌-◌, ◌<◌, ◌≤◌, ◌⊎◌, ◌==◌, Bool, true, false, not, List, Some}
use Rattle.std.proofs.Common.{None, refl, subst, inl, inr, arith}
use Rattle.std.specs.Prelude.{IsTrue}
use Rattle.std.proofs.lemmas.Bool.{both_ways}
use Rattle.std.proofs.lemmas.Bool.Decides.{nat_tests}
use Rattle.re_syntax.specs.Tree.{Tree, Letter, AnyLetter, OneOf, LineStart, LineEnd, Then, Either, Many, Several, Maybe}
use Rattle.re_syntax.specs.Tree.{Group}
use Rattle.re_syntax.specs.Match.{Matches, Pieces, Repeats, Joins, one_rune, line_start, line_end, is_in_class}
use Rattle.re_syntax.specs.Groups.{IsLongest, AheadBy, Walk, PlusWalk}
use Rattle.re_spans.specs.Shapes.{HasLength, is_repeated}
use Rattle.re_spans.proofs.Ways.{LeadsOn, Repeats-on, Matches-on, repeats_put, joined_repeats, repeats_joined}

-- ---- so many runes

one_rune_long : (test : ℕ → Bool) (t : List ℕ) (i j : ℕ) → IsTrue (one_rune test t i j) → j ≡ i + 1
one_rune_long test t i j h = grind (arith, nat_tests)

line_start_null : (t : List ℕ) (i j : ℕ) → IsTrue (line_start t i j) → j ≡ i + 0
line_start_null t i j h = grind (arith, nat_tests)

line_end_null : (t : List ℕ) (i j : ℕ) → IsTrue (line_end t i j) → j ≡ i + 0
line_end_null t i j h = grind (arith, nat_tests)

pub letter_long : (c : ℕ) → HasLength (Letter c) 1
letter_long c t i j m = one_rune_long (λ d. d == c) t i j m

pub any_long : HasLength AnyLetter 1
any_long t i j m = one_rune_long (λ d. not (d == 10)) t i j m

pub class_long : (negated : Bool) (spans : List (ℕ × ℕ)) → HasLength (OneOf negated spans) 1
class_long negated spans t i j m = one_rune_long (is_in_class negated spans) t i j m

pub start_long : HasLength LineStart 0
start_long t i j m = line_start_null t i j m

pub end_long : HasLength LineEnd 0
end_long t i j m = line_end_null t i j m

-- the seam of two parts, of which the first or the second is so long
pub first_long : (R S : ℕ → ℕ → Type 0) (i j n : ℕ) → LeadsOn S → ((k : ℕ) → R i k → k ≡ i + n) → Joins R S i j
    → (i ≤ i + n) × (i + n ≤ j) × IsLongest (AheadBy 0 R) S i j (i + n)
first_long R S i j n on_s long p =
    let e = long p.0 p.1 in
    let s = subst (λ (x : ℕ). S x j) e p.2 in (
      omega arith,
      on_s (i + n) j s,
      (
        (omega arith, subst (λ (x : ℕ). R i x) e p.1),
        s,
        λ m q z. omega (arith, long m q.1),
      ),
    )

pub second_long : (R S : ℕ → ℕ → Type 0) (i j n : ℕ) → LeadsOn R → ((k : ℕ) → S k j → j ≡ k + n) → Joins R S i j
    → (i ≤ j - n) × (j - n ≤ j) × IsLongest (AheadBy 0 R) S i j (j - n)
second_long R S i j n on_r long p =
    let l = long p.0 p.2 in
    let e : p.0 ≡ j - n = omega (arith, l) in
    let r = subst (λ (x : ℕ). R i x) e p.1 in (
      on_r i (j - n) r,
      omega arith,
      (
        (omega (arith, on_r i (j - n) r), r),
        subst (λ (x : ℕ). S x j) e p.2,
        λ m q z. omega (arith, long m z),
      ),
    )

-- ---- repetitions of repetitions

many_again : (R : ℕ → ℕ → Type 0) (n i j : ℕ) → Pieces (Repeats R) n i j → Repeats R i j
many_again R zero i j p = (zero, p)
many_again R (suc n) i j p = repeats_put R p.2.0 i p.0 j p.2.1 (many_again R n p.0 j p.3)

several_again : (R : ℕ → ℕ → Type 0) → LeadsOn R → (n i j : ℕ) → Pieces (Joins R (Repeats R)) n i j → Repeats R i j
several_again R on zero i j p = (zero, p)
several_again R on (suc n) i j p =
    let one = joined_repeats R on i p.0 p.2 in repeats_put R one.0 i p.0 j one.1 (several_again R on n p.0 j p.3)

maybe_again : (R : ℕ → ℕ → Type 0) (n i j : ℕ) → Pieces (λ k m. R k m ⊎ (m ≡ k)) n i j → Pieces R n i j
maybe_again R zero i j p = p
maybe_again R (suc n) i j p =
    let rest = maybe_again R n p.0 j p.3 in
    elim p.2 [
      | inl r ↦ (p.0, p.1, r, rest)
      | inr e ↦ absurd (omega (arith, p.1, e))
    ]

pub again : (r : Tree) (t : List ℕ) (i j : ℕ) → is_repeated r ≡ true → i < j → Repeats (Matches r t) i j
    → Matches r t i j
again (Letter c) t i j e l h = absurd (both_ways false refl e)
again AnyLetter t i j e l h = absurd (both_ways false refl e)
again (OneOf negated spans) t i j e l h = absurd (both_ways false refl e)
again LineStart t i j e l h = absurd (both_ways false refl e)
again LineEnd t i j e l h = absurd (both_ways false refl e)
again (Then a b) t i j e l h = absurd (both_ways false refl e)
again (Either a b) t i j e l h = absurd (both_ways false refl e)
again (Many a) t i j e l h = many_again (Matches a t) h.0 i j h.1
again (Several a) t i j e l h = repeats_joined (Matches a t) i j l
    (several_again (Matches a t) (Matches-on a t) h.0 i j h.1)
again (Maybe a) t i j e l h = inl (again a t i j e l (h.0, maybe_again (Matches a t) h.0 i j h.1))
again (Group n a) t i j e l h = again a t i j e l h

module _ (R : ℕ → ℕ → Type 0) (i j : ℕ) (l : i < j) (r : R i j) where
  whole : (n : ℕ) → i + n ≤ j → IsLongest (AheadBy n R) (Repeats R) i j j
  whole n f = ((f, r), (zero, refl), λ m q s. Repeats-on R m j s)

  -- the whole is the only piece of a star, and of a plus
  pub one_walk : (n : ℕ) × Walk R n i j None (Some (record { q0 = i; q1 = j }))
  one_walk = (1, (j, whole 1 (omega (arith, l)), (refl, refl)))

  pub one_plus : PlusWalk R i j (record { q0 = i; q1 = j })
  one_plus = (j, zero, whole 0 (omega (arith, l)), (refl, refl))
