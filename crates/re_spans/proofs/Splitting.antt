-- Where the first part of a span ends.
use Rattle.std.proofs.Common.{◌≡◌, ℕ, zero, suc, ◌+◌, ◌-◌, ◌<◌, ◌≤◌, Option, Some, None, subst, arith}
use Rattle.std.specs.Prelude.{IsTrue}
use Rattle.re_syntax.specs.Match.{Repeats, Pieces, Joins}
use Rattle.re_syntax.specs.Groups.{IsLongest, AheadBy, Walk}
use Rattle.am_text.specs.declared.range.Range.{Range}
use Rattle.re_spans.specs.Places.{Cells, has}
use Rattle.re_spans.specs.Pieces.{Past, AreStartsOf}
use Rattle.re_spans.specs.Choice.{LeadsTo, AmongThose, IsGreatestOf, HasNone}
use Rattle.re_spans.specs.declared.way.Way.TheVariants.{On}
use Rattle.re_spans.proofs.Ways.{LeadsOn}

module _ (R S : ℕ → ℕ → Type 0) (i j low : ℕ) (starts : Cells) (on_r : LeadsOn R) (on_s : LeadsOn S) (order : i ≤ j)
    (tells : AreStartsOf S i j starts) where
  -- a first part is as many places long
  parted : (m : ℕ) → Past low R i m → S m j → (m - i ≤ j - i) × LeadsTo On R i (AmongThose starts low i) (m - i)
  parted m p s =
      let after : i ≤ m = on_r i m p.1 in
      let same : m ≡ i + (m - i) = omega (arith, after) in
      let inside : m ≤ j = on_s m j s in (
        omega (arith, inside),
        (
          subst (λ (x : ℕ). R i x) same p.1,
          (
            omega (arith, p.0, after),
            subst (λ (x : ℕ). IsTrue (has starts x)) same ((tells m after inside).1 s),
          ),
        ),
      )

  pub split_some : (d : ℕ) → IsGreatestOf (LeadsTo On R i (AmongThose starts low i)) (j - i) d → (i ≤ i + d)
      × (i + d ≤ j) × IsLongest (Past low R) S i j (i + d)
  split_some d g =
      let inside : i + d ≤ j = omega (arith, g.inside, order) in (
        omega arith,
        inside,
        (
          (g.has.1.0, g.has.0),
          (tells (i + d) (omega arith) inside).0 g.has.1.1,
          λ m p s. let x = parted m p s in omega (arith, g.most (m - i) x.0 x.1, on_r i m p.1),
        ),
      )

  pub split_none : HasNone (LeadsTo On R i (AmongThose starts low i)) (j - i) → Joins (Past low R) S i j → ⊥
  split_none none p = let x = parted p.0 p.1 p.2 in none (p.0 - i) x.0 x.1

-- the same set tells of a later part of the span
pub later_starts : (S : ℕ → ℕ → Type 0) (i k j : ℕ) (s : Cells) → i ≤ k → AreStartsOf S i j s → AreStartsOf S k j s
later_starts S i k j s l tells m a b = tells m (omega (arith, l, a)) b

pub joins_past : (R S : ℕ → ℕ → Type 0) (i j : ℕ) → LeadsOn R → Joins R S i j → Joins (Past i R) S i j
joins_past R S i j on p = (p.0, (on i p.0 p.1, p.1), p.2)

pub ahead_zero : (R S : ℕ → ℕ → Type 0) (i j k : ℕ) → IsLongest (Past i R) S i j k → IsLongest (AheadBy 0 R) S i j k
ahead_zero R S i j k p =
    ((omega (arith, p.0.0), p.0.1), p.1, λ m q s. p.2 m (omega (arith, q.0), q.1) s)

-- what isn't at its end goes on by a piece
pub first_of_pieces : (R : ℕ → ℕ → Type 0) (i j : ℕ) → Repeats R i j → i < j → Joins (Past (i + 1) R) (Repeats R) i j
first_of_pieces R i j r l = go r.0 r.1
  where
    go : (n : ℕ) → Pieces R n i j → Joins (Past (i + 1) R) (Repeats R) i j
    go zero e = absurd (omega (arith, e))
    go (suc n) p = (p.0, (omega (arith, p.1), p.2), (n, p.3))

-- a walk that has a piece before it ends with a piece
pub walk_some : (R : ℕ → ℕ → Type 0) (n i j : ℕ) (p : Range) (out : Option Range) → Walk R n i j (Some p) out
    → out ≡ None → ⊥
walk_some R zero i j p out w e = cc (w.1, e)
walk_some R (suc n) i j p out w e = walk_some R n w.0 j (record { q0 = i; q1 = w.0 }) out w.2 e
