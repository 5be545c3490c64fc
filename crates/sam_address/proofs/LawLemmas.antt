-- The laws.
use Rattle.std.proofs.Common.{◌≡◌, ℕ, zero, suc, ◌+◌, ◌-◌, ◌<◌, ◌≤◌, ◌&&◌, Bool, true, false, cond, eqb, leb, List, []}
use Rattle.std.proofs.Common.{◌∷◌, length, get_or, refl, sym, ap, ◌∙◌, inl, inr, arith, rules}
use Rattle.std.specs.Prelude.{◌==◌}
use Rattle.std.specs.List.{list_any, All, AllPairs}
use Rattle.std.proofs.lemmas.Bool.{le-leb, lt-leb, eq-eqb, ne_eqb, cases_eq, cases_lt}
use Rattle.std.proofs.lemmas.List.Elements.{All-cons}
use Rattle.std.proofs.lemmas.List.Kept.{AllPairs-cons}
use Rattle.sam_address.specs.Laws.{LineStartsAreThose, LineStartsRise}
use Rattle.sam_address.specs.Lines.{after_newlines}

abbrev has : List ℕ → ℕ → Bool
has xs p = list_any (λ s. s == p) xs

none_below : (at p : ℕ) (cs : List ℕ) → p ≤ at → has (after_newlines at cs) p ≡ false
none_below at p [] l = refl
none_below at p (c ∷ cs) l =
    let more = after_newlines (at + 1) cs in
    let none : has more p ≡ false = none_below (at + 1) p cs (omega arith) in
    elim (eqb c 10) as (λ b. has (cond b ((at + 1) ∷ more) more) p ≡ false) [
      | true ↦ rw (ne_eqb (at + 1) p (omega arith)) none
      | false ↦ none
    ]

has_newline : (m at p : ℕ) (cs : List ℕ) → p ≡ at + m + 1 → has (after_newlines at cs)
    p ≡ (leb (m + 1) (length cs) && eqb (get_or cs m 0) 10)
has_newline m at p [] e = rw (lt-leb (m + 1) 0 (omega arith)) refl
has_newline zero at p (c ∷ cs) e =
    let more = after_newlines (at + 1) cs in
    let none : has more p ≡ false = none_below (at + 1) p cs (omega arith) in
    rw (le-leb (0 + 1) (length (c ∷ cs)) (omega arith)) (elim (eqb c 10) as
    (λ b. has (cond b ((at + 1) ∷ more) more) p ≡ b) [
      | true ↦ rw (eq-eqb (at + 1) p (omega arith)) refl
      | false ↦ none
    ])
has_newline (suc m) at p (c ∷ cs) e =
    let more = after_newlines (at + 1) cs in
    let later : has more p ≡ (leb (m + 1) (length cs) && eqb (get_or cs m 0) 10) = has_newline m (at + 1) p cs
    (omega arith) in
    let same : leb (m + 1) (length cs) ≡ leb (suc m + 1) (length (c ∷ cs)) = both_tests m (length cs) in
    (elim (eqb c 10) as (λ b. has (cond b ((at + 1) ∷ more) more) p ≡ has more p) [
      | true ↦ rw (ne_eqb (at + 1) p (omega arith)) refl
      | false ↦ refl
    ]) ∙ (later ∙ ap (λ x. x && eqb (get_or cs m 0) 10) same)
  where
    both_tests : (m n : ℕ) → leb (m + 1) n ≡ leb (suc m + 1) (suc n)
    both_tests m n = elim (cases_lt n (m + 1)) [
      | inl l ↦ lt-leb (m + 1) n l ∙ sym (lt-leb (suc m + 1) (suc n) (omega arith))
      | inr l ↦ le-leb (m + 1) n l ∙ sym (le-leb (suc m + 1) (suc n) (omega arith))
    ]

pub line_starts_are_those : LineStartsAreThose
line_starts_are_those t p = elim (cases_eq p 0) [
  | inl e ↦ rw (eq-eqb p 0 e, eq-eqb 0 p (sym e)) refl
  | inr ne ↦
      let one : p - 1 + 1 ≡ p = omega arith in
      rw (ne_eqb p 0 ne, ne_eqb 0 p (λ e. ne (sym e))) (has_newline (p - 1) 0 p t (omega arith)
      ∙ ap (λ x. leb x (length t) && eqb (get_or t (p - 1) 0) 10) one)
]

all_above : (k at : ℕ) (cs : List ℕ) → k ≤ at → All (λ s. k < s) (after_newlines at cs)
all_above k at [] l = search rules
all_above k at (c ∷ cs) l =
    let more = after_newlines (at + 1) cs in
    let above : All (λ s. k < s) more = all_above k (at + 1) cs (omega arith) in
    elim (eqb c 10) as (λ b. All (λ s. k < s) (cond b ((at + 1) ∷ more) more)) [
      | true ↦ All-cons (λ s. k < s) (at + 1) more (omega arith) above
      | false ↦ above
    ]

rising : (at : ℕ) (cs : List ℕ) → AllPairs (λ s u. s < u) (after_newlines at cs)
rising at [] = search rules
rising at (c ∷ cs) =
    let more = after_newlines (at + 1) cs in
    let rises : AllPairs (λ s u. s < u) more = rising (at + 1) cs in
    elim (eqb c 10) as (λ b. AllPairs (λ s u. s < u) (cond b ((at + 1) ∷ more) more)) [
      | true ↦ AllPairs-cons (λ s u. s < u) (at + 1) more (all_above (at + 1) (at + 1) cs (omega arith)) rises
      | false ↦ rises
    ]

pub line_starts_rise : LineStartsRise
line_starts_rise t = AllPairs-cons (λ s u. s < u) 0 (after_newlines 0 t) (all_above 0 0 t (omega arith)) (rising 0 t)
