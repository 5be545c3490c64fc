-- Sets of letters go over runes.
use Rattle.std.proofs.Common.{◌≡◌, ℕ, zero, suc, ◌+◌, ◌<◌, ◌≤◌, ◌⊎◌, ◌==◌, ◌&&◌, ◌||◌, Bool, true, false, refl, sym}
use Rattle.std.proofs.Common.{subst, inl, inr, arith}
use Rattle.std.specs.Prelude.{IsTrue, ◌↔◌}
use Rattle.re_syntax.specs.Tree.{Tree}
use Rattle.re_spans.specs.declared.leaf.Here.{Here}
use Rattle.re_sets.specs.Readings.{Reading, Spans, Null}
use Rattle.re_sets.specs.Spots.{Spot, takes_at, null, first, last, follow, After, Enters, Goes}
use Rattle.re_sets.specs.Numbers.{letters, is_letter, number, bits, rows, any_below, step, enter, is_end, Leads, Came}
use Rattle.re_sets.specs.Numbers.{begun, gone, run}
use Rattle.re_sets.specs.Laws.{SetsAreStepped, SetsAreEntered, SetsAreReached}
use Rattle.re_sets.proofs.Going.{both, and_true}
use Rattle.re_sets.proofs.Paths.{begins, goes_on}
use Rattle.re_sets.proofs.Numbering.{bit_of, bit_tells, after_letter, meets_to, meets_from}

pub step_to : (r : Tree) (x : Here) (d : ℕ) (s : ℕ → Bool) (p q : Spot) → IsTrue (is_letter r p)
    → IsTrue (is_letter r q) → IsTrue (s (number r 0 p)) → IsTrue (follow r x p q) → IsTrue (takes_at r d q)
    → IsTrue (step r x d s (number r 0 q))
step_to r x d s p q h g e f t =
    and_true (any_below (λ m. s m && rows r 0 (follow r x) m (number r 0 q)) (letters r))
    (bits r 0 (takes_at r d) (number r 0 q)) (meets_to r s (λ u. bits r 0 (follow r x u) (number r 0 q)) p h e
    (bit_of r 0 (follow r x p) q g f)) (bit_of r 0 (takes_at r d) q g t)

pub step_from : (r : Tree) (x : Here) (d : ℕ) (s : ℕ → Bool) (q : Spot) → IsTrue (is_letter r q)
    → IsTrue (step r x d s (number r 0 q)) → (p : Spot) × IsTrue (is_letter r p) × IsTrue (s (number r 0 p))
    × IsTrue (follow r x p q) × IsTrue (takes_at r d q)
step_from r x d s q g h =
    let y = both (any_below (λ m. s m && rows r 0 (follow r x) m (number r 0 q)) (letters r))
    (bits r 0 (takes_at r d) (number r 0 q)) h in
    let p = meets_from r s (λ u. bits r 0 (follow r x u) (number r 0 q)) y.0 in
    (p.0, p.1, p.2, bit_tells r 0 (follow r x p.0) q g p.3, bit_tells r 0 (takes_at r d) q g y.1)

pub enter_to : (r : Tree) (x : Here) (d : ℕ) (q : Spot) → IsTrue (is_letter r q) → IsTrue (first r x q)
    → IsTrue (takes_at r d q) → IsTrue (enter r x d (number r 0 q))
enter_to r x d q g f t =
    and_true (bits r 0 (first r x) (number r 0 q)) (bits r 0 (takes_at r d) (number r 0 q))
    (bit_of r 0 (first r x) q g f) (bit_of r 0 (takes_at r d) q g t)

pub enter_from : (r : Tree) (x : Here) (d : ℕ) (q : Spot) → IsTrue (is_letter r q) → IsTrue (enter r x d (number r 0 q))
    → IsTrue (first r x q) × IsTrue (takes_at r d q)
enter_from r x d q g h =
    let y = both (bits r 0 (first r x) (number r 0 q)) (bits r 0 (takes_at r d) (number r 0 q)) h in
    (bit_tells r 0 (first r x) q g y.0, bit_tells r 0 (takes_at r d) q g y.1)

pub sets_are_stepped : SetsAreStepped
sets_are_stepped r w s k j = (
  λ x.
      let h = after_letter r w x.0 k j x.2 in
      elim ((goes_on r w x.0 k j).0 x.2) [
        | inl z ↦ inl (z.0, meets_to r s (last r (w.here k)) x.0 h x.1 z.1)
        | inr e ↦ inr (
          e.2,
          (
            e.0,
            step_to r (w.here k) (w.rune k) s x.0 e.0 h (after_letter r w e.0 (k + 1) j e.4) x.1
                e.1 e.3,
            e.4,
          ),
        )
      ],
  λ g. elim g [
    | inl z ↦
        let p = meets_from r s (last r (w.here k)) z.1 in
        (p.0, p.2, (goes_on r w p.0 k j).1 (inl (z.0, p.3)))
    | inr e ↦
        let q = e.1 in
        let p = step_from r (w.here k) (w.rune k) s q.0 (after_letter r w q.0 (k + 1) j q.2) q.1 in
        (p.0, p.2, (goes_on r w p.0 k j).1 (inr (q.0, p.3, e.0, p.4, q.2)))
  ],
)

pub sets_are_entered : SetsAreEntered
sets_are_entered r w i j = (
  λ x. elim ((begins r w i j).0 x) [
    | inl z ↦ inl z
    | inr e ↦ inr (e.2, (e.0, enter_to r (w.here i) (w.rune i) e.0 (after_letter r w e.0 (i + 1) j e.4) e.1 e.3, e.4))
  ],
  λ g. elim g [
    | inl z ↦ (begins r w i j).1 (inl z)
    | inr e ↦
        let q = e.1 in
        let p = enter_from r (w.here i) (w.rune i) q.0 (after_letter r w q.0 (i + 1) j q.2) q.1 in
        (begins r w i j).1 (inr (q.0, p.0, e.0, p.1, q.2))
  ],
)

came_letter : (r : Tree) (w : Reading) (i k : ℕ) (q : Spot) → Came r w i k q → IsTrue (is_letter r q)
came_letter r w i _ _ (begun q g f t) = g
came_letter r w i _ _ (gone n p q c g f t) = g

run_to : (r : Tree) (w : Reading) (i k : ℕ) (q : Spot) → IsTrue (is_letter r q) → IsTrue (run r w i k (number r 0 q))
    → Came r w i k q
run_to r w i zero q g h = let x = enter_from r (w.here i) (w.rune i) q g h in begun q g x.0 x.1
run_to r w i (suc k) q g h =
    let p = step_from r (w.here (i + 1 + k)) (w.rune (i + 1 + k)) (run r w i k) q g h in
    let n : k + 1 ≡ suc k = omega arith in
    subst (λ (z : ℕ). Came r w i z q) n (gone k p.0 q (run_to r w i k p.0 p.1 p.2) g p.3 p.4)

came_run : (r : Tree) (w : Reading) (i k : ℕ) (q : Spot) → Came r w i k q → IsTrue (run r w i k (number r 0 q))
came_run r w i _ _ (begun q g f t) = enter_to r (w.here i) (w.rune i) q g f t
came_run r w i _ _ (gone n p q c g f t) =
    let e : suc n ≡ n + 1 = omega arith in
    subst (λ (z : ℕ). IsTrue (run r w i z (number r 0 q))) e (step_to r (w.here (i + 1 + n)) (w.rune (i + 1 + n))
    (run r w i n) p q (came_letter r w i n p c) g (came_run r w i n p c) f t)

pub sets_are_reached : SetsAreReached
sets_are_reached r w i k q g = (run_to r w i k q g, came_run r w i k q)
