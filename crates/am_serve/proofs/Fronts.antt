-- What is left behind a front.
use Rattle.std.proofs.Common.{◌≡◌, ◌≢◌, ℕ, ◌+◌, Bool, true, false, ◌==◌, List, [], ◌∷◌, ◌++◌, length, take, drop}
use Rattle.std.proofs.Common.{Option, Some, None, refl, sym, ap, ◌∙◌, if◌then◌else◌}
use Rattle.std.specs.Prelude.{option_copied}
use Rattle.std.specs.Option.{MatchOption}
use Rattle.std.specs.Cmp.Lexicographic.{pointwise}
use lib.Dec.{eqb}
use Rattle.std.specs.Borrow.{Bor}
use Rattle.std.proofs.lemmas.Bool.{eq-eqb, eqb-true}
use Rattle.std.proofs.lemmas.Bool.Decides.{Decides-eqb}
use Rattle.std.proofs.lemmas.Slice.Eq.{strip_prefix_is}
use Rattle.am_text.specs.Front.{after_front}

after_whole : (front rest : List ℕ) → after_front front (front ++ rest) ≡ Some rest
after_whole [] rest = refl
after_whole (f ∷ fs) rest = rw (eq-eqb f f refl) (after_whole fs rest)

-- it is there, or they don't begin so
after_none : (front bytes : List ℕ) → ((rest : List ℕ) → bytes ≢ front ++ rest) → after_front front bytes ≡ None
after_none [] bytes other = absurd (other bytes refl)
after_none (f ∷ fs) [] other = refl
after_none (f ∷ fs) (b ∷ bs) other =
    by_cases (b == f) (λ e. after_none fs bs (λ rest h. other rest
    (ap (λ x. x ∷ bs) (eqb-true b f e) ∙ ap (λ (l : List ℕ). f ∷ l) h))) refl
  where
    by_cases : (same : Bool) → ((b == f) ≡ true → after_front fs bs ≡ None)
        → (b == f) ≡ same → (if same then after_front fs bs else None) ≡ None
    by_cases true others e = others e
    by_cases false others e = refl

front_is : (front bytes : List ℕ) (r : Option (Bor (List ℕ))) → MatchOption r ((rest : List ℕ) → bytes ≢ front ++ rest)
    (λ x. bytes ≡ front ++ x.now) → option_copied r ≡ after_front front bytes
front_is front bytes None h = sym (after_none front bytes h)
front_is front bytes (Some x) h = sym (ap (after_front front) h ∙ after_whole front x.now)

pub front_stripped : (front bytes : List ℕ) (r : Option (Bor (List ℕ)))
    → MatchOption r (pointwise eqb (take (length front) bytes) front ≡ false)
    (λ x. (pointwise eqb (take (length front) bytes) front ≡ true) × (x.now ≡ drop (length front) bytes)
    × (length x.now + length front ≡ length bytes))
    → option_copied r ≡ after_front front bytes
front_stripped front bytes r h = front_is front bytes r (strip_prefix_is Decides-eqb bytes front r h)
