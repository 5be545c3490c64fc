-- Matches one after another.
use Rattle.std.proofs.Common.{◌≡◌, ℕ, zero, suc, ◌+◌, ◌-◌, ◌<◌, ◌≤◌, ◌⊎◌, ◌++◌, List, [], ◌∷◌, Option, Some, None, refl}
use Rattle.std.proofs.Common.{sym, ap, subst, ◌∙◌, inl, inr, arith}
use Rattle.std.specs.Prelude.{IfSome}
use Rattle.std.proofs.lemmas.List.{append_assoc, append-nil}
use Rattle.std.proofs.lemmas.Bool.{cases_lt}
use Rattle.am_text.specs.declared.range.Range.{Range}
use Rattle.re_syntax.specs.Tree.{Tree}
use Rattle.re_syntax.specs.Match.{IsFirst, HasNoSpan}
use Rattle.re_spans.specs.Search.{first_span}
use Rattle.re_spans.specs.Successive.{and_more, successive_from, successive, FollowOn, AreInOrder}
use Rattle.re_spans.specs.Laws.{SuccessiveMatchesFollow, SuccessiveMatchesAreInOrder}
use Rattle.re_spans.proofs.Ways.{Matches-on}
use Rattle.re_spans.proofs.Chosen.{first_is, found_first, first_between}

-- ---- one match more

pub one_more : (r : Tree) (t : List ℕ) (end : ℕ) (no_null : Option ℕ) (at n : ℕ) (found : Range) → 0 < n
    → Some found ≡ first_span r t at end no_null → successive_from r t end no_null at n ≡ found ∷ successive_from r t
    end (Some found.q1) found.q1 (n - 1)
one_more r t end no_null at zero found l e = absurd (omega (arith, l))
one_more r t end no_null at (suc n) found l e =
    let one : suc n - 1 ≡ n = omega arith in
    rw (sym e, one) refl

pub no_more : (r : Tree) (t : List ℕ) (end : ℕ) (no_null : Option ℕ) (at n : ℕ) → None ≡ first_span r t at end no_null
    → successive_from r t end no_null at n ≡ []
no_more r t end no_null at zero e = refl
no_more r t end no_null at (suc n) e = rw (sym e) refl

pub told_more : (all more rest whole : List Range) (found : Range) → all ++ more ≡ whole → more ≡ found ∷ rest
    → (all ++ found ∷ []) ++ rest ≡ whole
told_more all more rest whole found told e = append_assoc all (found ∷ []) rest
    ∙ (ap (λ (x : List Range). all ++ x) (sym e) ∙ told)

pub all_told : (all more whole : List Range) → more ≡ [] → all ++ more ≡ whole → all ≡ whole
all_told all more whole e told = sym (append-nil all) ∙ (ap (λ (x : List Range). all ++ x) (sym e) ∙ told)

pub no_turns : (r : Tree) (t : List ℕ) (end : ℕ) (no_null : Option ℕ) (at n : ℕ)
    → n ≡ 0 → successive_from r t end no_null at n ≡ []
no_turns r t end no_null at zero e = refl
no_turns r t end no_null at (suc n) e = absurd (omega (arith, e))

-- ---- so many turns are enough

-- each match but the first ends later than the one before
abbrev Enough : Option ℕ → ℕ → ℕ → ℕ → Type 0
Enough no_null at end n = (end < at + n) ⊎ ((no_null ≡ Some at) × (end ≤ at + n))

no_room : (r : Tree) (t : List ℕ) (end : ℕ) (no_null : Option ℕ) (at : ℕ) → Enough no_null at end 0
    → HasNoSpan r t at end no_null
no_room r t end no_null at enough i j s =
    let on : i ≤ j = Matches-on r t i j s.matches in
    elim enough [
      | inl l ↦ absurd (omega (arith, l, on, s.above, s.below))
      | inr x ↦
          let here : at ≡ i = omega (arith, x.1, on, s.above, s.below) in
          s.allowed (omega (arith, x.1, on, s.above, s.below)) (subst (λ (k : ℕ). no_null ≡ Some k) here x.0)
    ]

goes_on : (r : Tree) (t : List ℕ) (end : ℕ) (no_null : Option ℕ) (at n : ℕ) (found : Range)
    → IsFirst r t at end no_null found → Enough no_null at end (suc n) → end ≤ found.q1 + n
goes_on r t end no_null at n found first enough =
    let s = first.span in
    let on : found.q0 ≤ found.q1 = Matches-on r t found.q0 found.q1 s.matches in
    elim enough [
      | inl l ↦ omega (arith, l, on, s.above)
      | inr x ↦ elim (cases_lt at found.q1) [
        | inl l ↦ omega (arith, x.1, l)
        | inr l ↦
            let here : at ≡ found.q0 = omega (arith, l, on, s.above) in
            absurd (s.allowed (omega (arith, l, on, s.above)) (subst (λ (k : ℕ). no_null ≡ Some k) here x.0))
      ]
    ]

first_of : (r : Tree) (t : List ℕ) (end : ℕ) (no_null : Option ℕ) (at : ℕ) (found : Range)
    → first_span r t at end no_null ≡ Some found → IsFirst r t at end no_null found
first_of r t end no_null at found e = subst (λ (x : Option Range). IfSome x (IsFirst r t at end no_null)) e
    (first_is r t at end no_null)

follow : (r : Tree) (t : List ℕ) (end n : ℕ) (no_null : Option ℕ) (at : ℕ) → Enough no_null at end n
    → FollowOn r t end no_null at (successive_from r t end no_null at n)
follow r t end zero no_null at enough = sym (found_first r t at end no_null None tt (no_room r t end no_null at enough))
follow r t end (suc n) no_null at enough = go (λ k e. follow r t end n (Some k) k e) (first_span r t at end no_null)
    refl
  where
    go : ((k : ℕ) → Enough (Some k) k end n → FollowOn r t end (Some k) k (successive_from r t end (Some k) k n))
        → (found : Option Range) → first_span r t at end no_null ≡ found → FollowOn r t end no_null at
        (and_more found (λ m. successive_from r t end (Some m.q1) m.q1 n))
    go rest None e = e
    go rest (Some m) e = (
      e,
      rest m.q1 (inr (
        refl,
        goes_on r t end no_null at n m (first_of r t end no_null at m e)
            enough,
      )),
    )

in_order : (r : Tree) (t : List ℕ) (end n : ℕ) (no_null : Option ℕ) (at : ℕ)
    → AreInOrder at end (successive_from r t end no_null at n)
in_order r t end zero no_null at = tt
in_order r t end (suc n) no_null at = go (λ k. in_order r t end n (Some k) k) (first_span r t at end no_null) refl
  where
    go : ((k : ℕ) → AreInOrder k end (successive_from r t end (Some k) k n)) → (found : Option Range)
        → first_span r t at end no_null ≡ found → AreInOrder at end
        (and_more found (λ m. successive_from r t end (Some m.q1) m.q1 n))
    go rest None e = tt
    go rest (Some m) e = (first_between r t at end no_null m (first_of r t end no_null at m e), rest m.q1)

pub successive_follow : SuccessiveMatchesFollow
unfolding successive
successive_follow r t from end = follow r t end (end + 1 - from) None from (inl (omega arith))

pub successive_in_order : SuccessiveMatchesAreInOrder
unfolding successive
successive_in_order r t from end = in_order r t end (end + 1 - from) None from

pub successive_is : (r : Tree) (t : List ℕ) (from end : ℕ) → successive_from r t end None from
    (end + 1 - from) ≡ successive r t from end
unfolding successive
successive_is r t from end = refl

pub told_first : (r : Tree) (t : List ℕ) (from end : ℕ) (all : List Range) → all ≡ []
    → all ++ successive_from r t end None from (end + 1 - from - 0) ≡ successive r t from end
told_first r t from end all e =
    let none : end + 1 - from - 0 ≡ end + 1 - from = omega arith in
    rw (e, none) (successive_is r t from end)

pub told_next : (r : Tree) (t : List ℕ) (from end : ℕ) (no_null : Option ℕ) (at count turn : ℕ) (all : List Range)
    (found : Range) → turn < count → Some found ≡ first_span r t at end no_null
    → all ++ successive_from r t end no_null at (count - turn) ≡ successive r t from end → (all ++ found ∷ [])
    ++ successive_from r t end (Some found.q1) found.q1 (count - (turn + 1)) ≡ successive r t from end
told_next r t from end no_null at count turn all found l e told =
    let one : count - turn - 1 ≡ count - (turn + 1) = omega arith in
    let more = one_more r t end no_null at (count - turn) found (omega (arith, l)) e in
    told_more all (successive_from r t end no_null at (count - turn))
    (successive_from r t end (Some found.q1) found.q1 (count - (turn + 1))) (successive r t from end) found told
    (more ∙ ap (λ (n : ℕ). found ∷ successive_from r t end (Some found.q1) found.q1 n) one)

pub ordered_of : (r : Tree) (t : List ℕ) (from end : ℕ) (all : List Range) → all ≡ successive r t from end
    → AreInOrder from end all
ordered_of r t from end all e = subst (λ (x : List Range). AreInOrder from end x) (sym e)
    (successive_in_order r t from end)
