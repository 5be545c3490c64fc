-- The digits of a number, put at the end one after another.
use Rattle.std.proofs.Common.{◌≡◌, ℕ, ◌+◌, ◌/◌, ◌%◌, ◌<◌, ◌≤◌, ◌^◌, List, [], ◌∷◌, ◌++◌, sym, ap, ◌∙◌, append_assoc}
use Rattle.std.proofs.Common.{arith}
use Rattle.std.proofs.lemmas.List.{append-nil}
use Rattle.std.proofs.lemmas.Fmt.{decimal_digit, decimal_step}
use Rattle.std.specs.Fmt.{decimal}

pub last_digit : (before bytes : List ℕ) (n : ℕ) → 10 ≤ n → n < 2 ^ 64 → bytes ≡ before ++ decimal (n / 10)
    → bytes ++ (48 + n % 10) ∷ [] ≡ before ++ decimal n
last_digit before bytes n many fits e =
    ap (λ (l : List ℕ). l ++ (48 + n % 10) ∷ []) e ∙ append_assoc before (decimal (n / 10)) ((48 + n % 10) ∷ [])
    ∙ ap (λ (l : List ℕ). before ++ l) (sym (decimal_step n many fits))

pub one_digit : (before : List ℕ) (n : ℕ) → n < 10 → before ++ (48 + n % 10) ∷ [] ≡ before ++ decimal n
one_digit before n few = let same : n % 10 ≡ n = omega (arith, few) in
    ap (λ (k : ℕ). before ++ (48 + k) ∷ []) same ∙ ap (λ (l : List ℕ). before ++ l) (sym (decimal_digit n few))

pub ruleset digits = (last_digit, one_digit)

-- texts, put at the end rune by rune
pub ruleset joined = (append_assoc, append-nil)
