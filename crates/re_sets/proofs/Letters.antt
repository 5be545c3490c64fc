-- What may come after a letter is a path.
use Rattle.std.proofs.Common.{◌≡◌, ℕ, zero, suc, ◌+◌, ◌<◌, ◌≤◌, ◌⊎◌, refl, sym, subst, inl, inr, arith}
use Rattle.std.specs.Prelude.{IsTrue, ◌↔◌}
use Rattle.re_syntax.specs.Tree.{Tree}
use Rattle.re_sets.specs.Readings.{Reading}
use Rattle.re_sets.specs.Spots.{Spot, last, follow, After, Path, ends, takes_one}
use Rattle.re_sets.proofs.Going.{After-on}
use Rattle.re_sets.proofs.Paths.{goes_on}

pub path_after : (r : Tree) (w : Reading) (p : Spot) (k j : ℕ) → Path r w p k j → After r w p k j
path_after r w _ _ _ (ends p k l) = (goes_on r w p k k).1 (inl (refl, l))
path_after r w _ _ _ (takes_one p q k j f l t rest) =
    (goes_on r w p k j).1 (inr (q, f, l, t, path_after r w q (k + 1) j rest))

after_path : (n : ℕ) (r : Tree) (w : Reading) (p : Spot) (k j : ℕ) → j ≤ k + n → After r w p k j → Path r w p k j
after_path zero r w p k j b x = elim ((goes_on r w p k j).0 x) [
  | inl z ↦ subst (λ (y : ℕ). Path r w p k y) (sym z.0) (ends p k z.1)
  | inr e ↦ absurd (omega (arith, b, After-on r w e.0 (k + 1) j e.4))
]
after_path (suc n) r w p k j b x = elim ((goes_on r w p k j).0 x) [
  | inl z ↦ subst (λ (y : ℕ). Path r w p k y) (sym z.0) (ends p k z.1)
  | inr e ↦ takes_one p e.0 k j e.1 e.2 e.3 (after_path n r w e.0 (k + 1) j (omega (arith, b)) e.4)
]

pub after_is_path : (r : Tree) (w : Reading) (p : Spot) (k j : ℕ) → After r w p k j ↔ Path r w p k j
after_is_path r w p k j = (λ x. after_path j r w p k j (omega arith) x, path_after r w p k j)
