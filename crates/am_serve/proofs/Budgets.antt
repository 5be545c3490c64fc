-- What is left of a budget, one message further.
use Rattle.std.proofs.Common.{◌≡◌, ℕ, ◌+◌, ◌-◌, ◌<◌, ◌≤◌, Bool, true, false, ◌&&◌, List, [], ◌∷◌, ◌++◌, length, refl}
use Rattle.std.proofs.Common.{sym, ap, subst, ◌∙◌, if◌then◌else◌, arith}
use Rattle.std.specs.Prelude.{nat_le}
use Rattle.std.specs.List.{concat}
use Rattle.std.proofs.lemmas.Bool.{le-leb, leb-true, leb-false, lt-leb, ltb-true}
use Rattle.std.proofs.lemmas.List.{append-nil, length-append}
use Rattle.std.proofs.lemmas.List.Folds.{concat-append}
use Rattle.am_serve.specs.declared.budget.Budget.{Budget}
use Rattle.am_serve.specs.Budget.{message_limit, byte_limit, fits_budget, whole, has_message, after_message, IsLeft}

both : (a b : Bool) → a ≡ true → b ≡ true → (a && b) ≡ true
both true true p q = refl
both true false p q = absurd cc
both false b p q = absurd cc

both_pass : (a b : Bool) → (a && b) ≡ true → (a ≡ true) × (b ≡ true)
both_pass true b e = (refl, e)
both_pass false b e = absurd cc

pub left_at_first : IsLeft whole []
left_at_first = record { messages = omega arith; bytes = omega arith }

-- messages that left something are no more than may come
pub left_fits : (b : Budget) (given : List (List ℕ)) → IsLeft b given → fits_budget given ≡ true
left_fits b given h =
    both _ _ (le-leb (length given) message_limit (omega (arith, h.messages)))
    (le-leb (length (concat given)) byte_limit (omega (arith, h.bytes)))

one_more : (given : List (List ℕ)) (m : List ℕ) → length (given ++ m ∷ []) ≡ length given + 1
one_more given m = length-append given (m ∷ [])

more_bytes : (given : List (List ℕ)) (m : List ℕ) → length (concat (given ++ m ∷ [])) ≡ length (concat given) + length m
more_bytes given m =
    ap length (concat-append given (m ∷ [])) ∙ length-append (concat given) (concat (m ∷ []))
    ∙ ap (λ (l : List ℕ). length (concat given) + length l) (append-nil m)

-- a test of the one is a test of the other
same_test : (a b c d : ℕ) → (a ≤ b → c ≤ d) → (c ≤ d → a ≤ b) → nat_le a b ≡ nat_le c d
same_test a b c d there back = by_cases (nat_le a b) refl
  where
    by_cases : (x : Bool) → nat_le a b ≡ x → nat_le a b ≡ nat_le c d
    by_cases true e = e ∙ sym (le-leb c d (there (leb-true a b e)))
    by_cases false e = e ∙ sym (lt-leb c d (not_there (leb-false a b e)))
      where
        not_there : b < a → d < c
        not_there lt = other (nat_le c d) refl
          where
            other : (y : Bool) → nat_le c d ≡ y → d < c
            other true f = absurd (omega (arith, lt, back (leb-true c d f)))
            other false f = leb-false c d f

-- one more message may come exactly where all of them fit
pub fits_next : (b : Budget) (given : List (List ℕ)) (m : List ℕ) → IsLeft b given
    → has_message b (length m) ≡ fits_budget (given ++ m ∷ [])
fits_next b given m h =
    ap (λ (x : Bool). x && nat_le (length m) b.bytes)
    (same_test 1 b.messages (length (given ++ m ∷ [])) message_limit
    (λ le. omega (arith, le, one_more given m, h.messages)) (λ le. omega (arith, le, one_more given m, h.messages)))
    ∙ ap (λ (x : Bool). nat_le (length (given ++ m ∷ [])) message_limit && x)
    (same_test (length m) b.bytes (length (concat (given ++ m ∷ []))) byte_limit
    (λ le. omega (arith, le, more_bytes given m, h.bytes)) (λ le. omega (arith, le, more_bytes given m, h.bytes)))

-- what is left behind it
pub left_further : (b now : Budget) (given : List (List ℕ)) (m : List ℕ) → IsLeft b given
    → has_message b (length m) ≡ true → now ≡ after_message b (length m) → IsLeft now (given ++ m ∷ [])
left_further b now given m h may e =
    let passed = both_pass _ _ may in
    let some : 0 < b.messages = ltb-true 0 b.messages passed.0 in
    let fits : length m ≤ b.bytes = leb-true (length m) b.bytes passed.1 in
    let is : now ≡ record { messages = b.messages - 1; bytes = b.bytes - length m } =
    e ∙ ap (λ (x : Bool). if x then record { messages = b.messages - 1; bytes = b.bytes - length m } else b) may in
    let P : Budget → Type 0 = λ x. IsLeft x (given ++ m ∷ []) in
    subst P (sym is) (record {
      messages = omega (arith, some, one_more given m, h.messages);
      bytes = omega (arith, fits, more_bytes given m, h.bytes);
    })
