-- Numbers among the words.
use Rattle.std.proofs.Common.{◌≡◌, ℕ, ◌≤◌, ◌==◌, ◌&&◌, Bool, true, false, not, List, [], ◌∷◌, Option, Some, None, refl}
use Rattle.std.proofs.Common.{sym}
use Rattle.std.proofs.Common.{subst, if◌then◌else◌, arith}
use Rattle.std.specs.Prelude.{nat_lt, nat_le}
use Rattle.std.specs.Str.{IsUtf8}
use Rattle.std.proofs.lemmas.Bool.{eqb-true, leb-true, ltb-true}
use Rattle.std.proofs.lemmas.Str.{IsUtf8-from_ascii}
use Rattle.std.proofs.lemmas.Fmt.{IsAscii-decimal}
use Rattle.am_text.specs.Number.{number_of, number_after}
use Rattle.am_text.proofs.Decimals.{number_is}
use Rattle.am_words.specs.Words.{is_path, up_to}

pub up_to_some : (most : ℕ) (o : Option ℕ) (n : ℕ) → up_to most o ≡ Some n → o ≡ Some n
up_to_some most None n e = e
up_to_some most (Some m) n e = go (nat_lt 0 m && nat_le m most) e
  where
    go : (b : Bool) → (if b then Some m else None) ≡ Some n → Some m ≡ Some n
    go true e = e
    go false e = absurd cc

-- a number within its limits is
pub up_to_within : (most : ℕ) (o : Option ℕ) (n : ℕ) → up_to most o ≡ Some n → (1 ≤ n) × (n ≤ most)
up_to_within most None n e = absurd cc
up_to_within most (Some m) n e = go (nat_lt 0 m) (nat_le m most) refl refl e
  where
    go : (a b : Bool) → nat_lt 0 m ≡ a → nat_le m most ≡ b → (if a && b then Some m else None) ≡ Some n → (1 ≤ n)
        × (n ≤ most)
    go true true s t e =
        let same : m ≡ n = cc in
        (omega (arith, ltb-true 0 m s, same), omega (arith, leb-true m most t, same))
    go true false s t e = absurd cc
    go false b s t e = absurd cc

hyphen : (ds : List ℕ) (n : ℕ) → number_of (45 ∷ ds) ≡ Some n → ⊥
unfolding number_after
hyphen [] n e = cc
hyphen (d ∷ ds) n e = cc

-- a number doesn't begin with `-`
pub number_begins : (bs : List ℕ) (n : ℕ) → number_of bs ≡ Some n → is_path bs ≡ true
number_begins [] n e = absurd cc
number_begins (d ∷ ds) n e = go (d == 45) refl
  where
    go : (b : Bool) → (d == 45) ≡ b → not b ≡ true
    go true t = absurd (hyphen ds n (subst (λ (k : ℕ). number_of (k ∷ ds) ≡ Some n) (eqb-true d 45 t) e))
    go false t = refl

-- and is a text
pub number_is_text : (bs : List ℕ) (n : ℕ) → number_of bs ≡ Some n → IsUtf8 bs
number_is_text bs n e =
    let is = number_is bs n e in
    subst IsUtf8 (sym is.1) (IsUtf8-from_ascii _ (IsAscii-decimal n is.0))
