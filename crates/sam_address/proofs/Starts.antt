-- Line starts, counted forward and back.
use Rattle.std.proofs.Common.{◌≡◌, ℕ, zero, suc, ◌+◌, ◌-◌, ◌<◌, ◌≤◌, true, false, cond, eqb, List, [], ◌∷◌, ◌++◌}
use Rattle.std.proofs.Common.{length, get_or, drop, reverse, Some, None, refl, sym, ap, subst, ◌∙◌, arith, add-one, Ok}
use Rattle.std.proofs.Common.{Err}
use Rattle.std.specs.Prelude.{filter, nat_le, unwrap_or}
use Rattle.std.proofs.Math.Seq.{drop-cons}
use Rattle.std.proofs.lemmas.Bool.{le-leb, lt-leb, eq-eqb, ne_eqb}
use Rattle.std.proofs.lemmas.List.{drop_all, reverse-append}
use Rattle.sam_address.specs.declared.fault.AddrFault.TheVariants as fault
use Rattle.sam_address.specs.Value.{Outcome, null_at, back_along, lines_back}
use Rattle.sam_address.specs.Lines.{after_newlines, line_starts, starts_from, starts_back, nth, line_at}

-- ---- forward

pub newlines_step : (t : List ℕ) (at : ℕ) → at < length t → after_newlines at
    (drop at t) ≡ cond (eqb (get_or t at 0) 10) ((at + 1) ∷ after_newlines (at + 1) (drop (at + 1) t))
    (after_newlines (at + 1) (drop (at + 1) t))
newlines_step t at l = rw (drop-cons t at 0 l, add-one) refl

pub nth_step : (t : List ℕ) (at n : ℕ) → at < length t → nth (after_newlines at (drop at t))
    n ≡ cond (eqb (get_or t at 0) 10) (cond (eqb n 1) (Some (at + 1))
    (nth (after_newlines (at + 1) (drop (at + 1) t)) (n - 1))) (nth (after_newlines (at + 1) (drop (at + 1) t)) n)
nth_step t at n l =
    let more = after_newlines (at + 1) (drop (at + 1) t) in
    ap (λ (x : List ℕ). nth x n) (newlines_step t at l) ∙ (elim (eqb (get_or t at 0) 10) as
    (λ b. nth (cond b ((at + 1) ∷ more) more) n ≡ cond b (cond (eqb n 1) (Some (at + 1)) (nth more (n - 1)))
    (nth more n)) [ true ↦ refl | false ↦ refl ])

pub nth_end : (t : List ℕ) (at n : ℕ) → length t ≤ at → nth (after_newlines at (drop at t)) n ≡ None
nth_end t at n l = rw (drop_all at t l) refl

all_kept : (k at : ℕ) (cs : List ℕ) → k ≤ at + 1 → filter (λ s. nat_le k s) (after_newlines at cs) ≡ after_newlines at
    cs
all_kept k at [] l = refl
all_kept k at (c ∷ cs) l =
    let more = after_newlines (at + 1) cs in
    let kept : filter (λ s. nat_le k s) more ≡ more = all_kept k (at + 1) cs (omega arith) in
    elim (eqb c 10) as (λ b. filter (λ s. nat_le k s) (cond b ((at + 1) ∷ more) more) ≡ cond b ((at + 1) ∷ more) more) [
      | true ↦ rw (le-leb k (at + 1) l) (ap (λ x. (at + 1) ∷ x) kept)
      | false ↦ kept
    ]

from_newline : (m q at : ℕ) (cs : List ℕ) → q ≡ at + m → filter (λ s. nat_le (q + 1) s)
    (after_newlines at cs) ≡ after_newlines q (drop m cs)
from_newline zero q at cs e = all_kept (q + 1) at cs (omega arith)
    ∙ (let here : at ≡ q = omega arith in ap (λ x. after_newlines x cs) here)
from_newline (suc m) q at [] e = refl
from_newline (suc m) q at (c ∷ cs) e =
    let more = after_newlines (at + 1) cs in
    let later : filter (λ s. nat_le (q + 1) s) more ≡ after_newlines q (drop m cs) = from_newline m q (at + 1) cs
    (omega arith) in
    elim (eqb c 10) as (λ b. filter (λ s. nat_le (q + 1) s) (cond b ((at + 1) ∷ more) more) ≡ after_newlines q
    (drop m cs)) [
      | true ↦ rw (lt-leb (q + 1) (at + 1) (omega arith)) later
      | false ↦ later
    ]

pub from_zero : (t : List ℕ) → starts_from t 0 ≡ 0 ∷ after_newlines 0 t
unfolding starts_from
from_zero t = (ap (λ x. 0 ∷ x) (all_kept 0 0 t (omega arith)))

pub from_after : (t : List ℕ) (s : ℕ) → starts_from t (s + 1) ≡ after_newlines s (drop s t)
unfolding starts_from
from_after t s = rw (lt-leb (s + 1) 0 (omega arith)) (from_newline s s 0 t (omega arith))

pub from_place : (t : List ℕ) (p : ℕ) → 0 < p → starts_from t p ≡ after_newlines (p - 1) (drop (p - 1) t)
from_place t p l =
    let one : p - 1 + 1 ≡ p = omega arith in
    ap (λ x. starts_from t x) (sym one) ∙ from_after t (p - 1)

-- where a line ends, from the place before it
pub end_step : (t : List ℕ) (s : ℕ) → s < length t → (line_at t s).q1 ≡ cond (eqb (get_or t s 0) 10) (s + 1)
    (line_at t (s + 1)).q1
end_step t s l =
    rw (from_after t s, from_after t (s + 1), nth_step t s 1 l)
    (elim (eqb (get_or t s 0) 10) as (λ b. unwrap_or (cond b (Some (s + 1))
    (nth (after_newlines (s + 1) (drop (s + 1) t)) 1)) (length t) ≡ cond b (s + 1)
    (unwrap_or (nth (after_newlines (s + 1) (drop (s + 1) t)) 1) (length t))) [ true ↦ refl | false ↦ refl ])

-- ---- back

none_kept : (k at : ℕ) (cs : List ℕ) → k ≤ at → filter (λ s. nat_le s k) (after_newlines at cs) ≡ []
none_kept k at [] l = refl
none_kept k at (c ∷ cs) l =
    let more = after_newlines (at + 1) cs in
    let none : filter (λ s. nat_le s k) more ≡ [] = none_kept k (at + 1) cs (omega arith) in
    elim (eqb c 10) as (λ b. filter (λ s. nat_le s k) (cond b ((at + 1) ∷ more) more) ≡ []) [
      | true ↦ rw (lt-leb (at + 1) k (omega arith)) none
      | false ↦ none
    ]

to_newline : (m q at : ℕ) (cs : List ℕ) → q ≡ at + m → m < length cs
    → filter (λ s. nat_le s (q + 1)) (after_newlines at cs) ≡ filter (λ s. nat_le s q) (after_newlines at cs)
    ++ cond (eqb (get_or cs m 0) 10) ((q + 1) ∷ []) []
to_newline m q at [] e l = absurd (omega arith)
to_newline zero q at (c ∷ cs) e l =
    let more = after_newlines (at + 1) cs in
    let low : filter (λ s. nat_le s q) more ≡ [] = none_kept q (at + 1) cs (omega arith) in
    let high : filter (λ s. nat_le s (q + 1)) more ≡ [] = none_kept (q + 1) (at + 1) cs (omega arith) in
    let here : at + 1 ≡ q + 1 = omega arith in
    elim (eqb c 10) as (λ b. filter (λ s. nat_le s (q + 1)) (cond b ((at + 1) ∷ more) more) ≡ filter (λ s. nat_le s q)
    (cond b ((at + 1) ∷ more) more) ++ cond b ((q + 1) ∷ []) []) [
      | true ↦ rw (le-leb (at + 1) (q + 1) (omega arith), lt-leb (at + 1) q (omega arith), low, high, here) refl
      | false ↦ rw (low, high) refl
    ]
to_newline (suc m) q at (c ∷ cs) e l =
    let more = after_newlines (at + 1) cs in
    let later : filter (λ s. nat_le s (q + 1)) more ≡ filter (λ s. nat_le s q) more
    ++ cond (eqb (get_or cs m 0) 10) ((q + 1) ∷ []) [] = to_newline m q (at + 1) cs (omega arith) (omega arith) in
    elim (eqb c 10) as (λ b. filter (λ s. nat_le s (q + 1)) (cond b ((at + 1) ∷ more) more) ≡ filter (λ s. nat_le s q)
    (cond b ((at + 1) ∷ more) more) ++ cond (eqb (get_or cs m 0) 10) ((q + 1) ∷ []) []) [
      | true ↦ rw (le-leb (at + 1) (q + 1) (omega arith), le-leb (at + 1) q (omega arith))
          (ap (λ x. (at + 1) ∷ x) later)
      | false ↦ later
    ]

pub back_zero : (t : List ℕ) → starts_back t 0 ≡ 0 ∷ []
unfolding starts_back
back_zero t = rw (none_kept 0 0 t (omega arith)) refl

pub back_after : (t : List ℕ) (q : ℕ) → q < length t → starts_back t (q + 1) ≡ cond (eqb (get_or t q 0) 10)
    ((q + 1) ∷ starts_back t q) (starts_back t q)
unfolding starts_back
back_after t q l =
    rw (le-leb 0 (q + 1) (omega arith), le-leb 0 q (omega arith), to_newline q q 0 t (omega arith) l)
    (elim (eqb (get_or t q 0) 10) as (λ b. reverse (0 ∷ (filter (λ s. nat_le s q) (after_newlines 0 t)
    ++ cond b ((q + 1) ∷ []) [])) ≡ cond b ((q + 1) ∷ reverse (0 ∷ filter (λ s. nat_le s q) (after_newlines 0 t)))
    (reverse (0 ∷ filter (λ s. nat_le s q) (after_newlines 0 t)))) [
      | true ↦ reverse-append (0 ∷ filter (λ s. nat_le s q) (after_newlines 0 t)) ((q + 1) ∷ [])
      | false ↦ reverse-append (0 ∷ filter (λ s. nat_le s q) (after_newlines 0 t)) []
    ])

-- ---- what the calls need of them

pub more_from_zero : (t : List ℕ) (p n : ℕ) → p ≡ 0 → (n ≡ 1 → ⊥) → nth (starts_from t p) n ≡ nth (after_newlines 0 t)
    (n - 1)
more_from_zero t p n e ne = ap (λ x. nth (starts_from t x) n) e ∙ (ap (λ (x : List ℕ). nth x n) (from_zero t)
    ∙ rw (ne_eqb n 1 ne) refl)

pub first_from_zero : (t : List ℕ) (p n : ℕ) → p ≡ 0 → n ≡ 1 → nth (starts_from t p) n ≡ Some 0
first_from_zero t p n e f = ap (λ x. nth (starts_from t x) n) e ∙ (ap (λ (x : List ℕ). nth x n) (from_zero t)
    ∙ rw (eq-eqb n 1 f) refl)

pub none_from_zero : (t : List ℕ) (n : ℕ) → n ≡ 0 → nth (line_starts t) n ≡ None
none_from_zero t n e = subst (λ k. nth (line_starts t) k ≡ None) (sym e) (none_in (line_starts t))
  where
    none_in : (xs : List ℕ) → nth xs 0 ≡ None
    none_in [] = refl
    none_in (x ∷ xs) = none_in xs

pub ruleset starts_found = (from_place, from_after, first_from_zero, more_from_zero)

-- a line start is passed on the way back
pub back_at_start : (t : List ℕ) (at n : ℕ) → 0 < at → at ≤ length t
    → get_or t (at - 1) 0 ≡ 10 → back_along t (starts_back t at) n ≡ cond (eqb n 0) (Ok (line_at t at))
    (back_along t (starts_back t (at - 1)) (n - 1))
back_at_start t at n l m e =
    let one : at - 1 + 1 ≡ at = omega arith in
    let here : starts_back t at ≡ at ∷ starts_back t (at - 1) =
    ap (λ x. starts_back t x) (sym one) ∙ (back_after t (at - 1) (omega arith)
    ∙ rw (eq-eqb (get_or t (at - 1) 0) 10 e, one) refl)
    in
    ap (λ (x : List ℕ). back_along t x n) here

pub back_within : (t : List ℕ) (at n : ℕ) → 0 < at → at ≤ length t → (get_or t (at - 1) 0 ≡ 10 → ⊥)
    → back_along t (starts_back t at) n ≡ back_along t (starts_back t (at - 1)) n
back_within t at n l m ne =
    let one : at - 1 + 1 ≡ at = omega arith in
    let here : starts_back t at ≡ starts_back t (at - 1) =
    ap (λ x. starts_back t x) (sym one) ∙ (back_after t (at - 1) (omega arith)
    ∙ rw (ne_eqb (get_or t (at - 1) 0) 10 ne) refl)
    in
    ap (λ (x : List ℕ). back_along t x n) here

pub back_at_zero : (t : List ℕ) (n : ℕ) → back_along t (starts_back t 0) n ≡ cond (eqb n 0) (Ok (line_at t 0))
    (cond (eqb (n - 1) 0) (Ok (null_at 0)) (Err fault.Range))
back_at_zero t n = ap (λ (x : List ℕ). back_along t x n) (back_zero t)

pub end_at_start : (t : List ℕ) (at : ℕ) → 0 < at → at ≤ length t → get_or t (at - 1) 0 ≡ 10 →
    (line_at t (at - 1)).q1 ≡ at
end_at_start t at l m e = let one : at - 1 + 1 ≡ at = omega arith in
    end_step t (at - 1) (omega arith) ∙ rw (eq-eqb (get_or t (at - 1) 0) 10 e) one

pub end_within : (t : List ℕ) (at : ℕ) → 0 < at → at ≤ length t → (get_or t (at - 1) 0 ≡ 10 → ⊥)
    → (line_at t (at - 1)).q1 ≡ (line_at t at).q1
end_within t at l m ne =
    let one : at - 1 + 1 ≡ at = omega arith in
    end_step t (at - 1) (omega arith) ∙ (rw (ne_eqb (get_or t (at - 1) 0) 10 ne) (ap (λ x. (line_at t x).q1) one))

pub lines_back_is : (t : List ℕ) (p n : ℕ) → 0 < n → lines_back t p n ≡ back_along t (starts_back t p) n
lines_back_is t p n l = rw (ne_eqb n 0 (omega arith)) refl

-- the line is found, which begins at a place
pub found_back : (t : List ℕ) (at end : ℕ) → end ≡ (line_at t at).q1
    → let o : Outcome = Ok (record { q0 = at; q1 = end }) in o ≡ Ok (line_at t at)
found_back t at end e = ap (λ (x : ℕ). let o : Outcome = Ok (record { q0 = at; q1 = x }) in o) e
