-- What is said of sets of letters.
use Rattle.std.specs.Prelude.{◌≡◌, ◌<◌, ◌↔◌, ◌⊎◌, ℕ, List, IsTrue, slice_index}
use Rattle.re_sets.specs.Words.{on}

-- a letter below a number is in the set
abbrev pub HasOne : ℕ → ℕ → Type 0
HasOne size word = (n : ℕ) × (n < size) × IsTrue (on word n)

-- the set has the letters of another one but this one, and is smaller
pub record IsWithout (word n left : ℕ) : Type 0 where
  pub less : left < word
  pub others : (m : ℕ) → IsTrue (on left m) ↔ (IsTrue (on word m) × ¬ (m ≡ n))

-- the rows of the members of one set have the members of the other too
abbrev pub AreAdded : List ℕ → List ℕ → ℕ → ℕ → Type 0
AreAdded old new from to = (m n : ℕ) → IsTrue (on (slice_index new m) n) ↔
    (IsTrue (on (slice_index old m) n) ⊎ (IsTrue (on from m) × IsTrue (on to n)))
