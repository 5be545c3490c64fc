-- Sets of letters as numbers: a letter is in the set where its bit is 1.
use Rattle.std.specs.Prelude.{◌≡◌, ◌==◌, ◌↔◌, ℕ, Bool, IsTrue}
use Rattle.std.specs.Int.{bit_at}
use Rattle.re_syntax.specs.Tree.{Tree}
use Rattle.re_sets.specs.Spots.{Spot}
use Rattle.re_sets.specs.Numbers.{bits}

-- the letter is in the set
abbrev pub on : ℕ → ℕ → Bool
on word n = bit_at word n == 1

-- the word is a set of letters, where the first of the tree has the number base
abbrev pub IsSet : Tree → ℕ → (Spot → Bool) → ℕ → Type 0
IsSet r base s word = (n : ℕ) → IsTrue (on word n) ↔ IsTrue (bits r base s n)
