-- The letters of a tree as a list, and which of them take a rune.
use Rattle.std.specs.Prelude.{ℕ, zero, suc, ◌+◌, ◌^◌, Bool, false, List, [], ◌∷◌, ◌++◌, bit_or, if◌then◌else◌}
use Rattle.re_syntax.specs.Tree.{Tree, Letter, AnyLetter, OneOf, LineStart, LineEnd, Then, Either, Many, Several, Maybe}
use Rattle.re_syntax.specs.Tree.{Group}
use Rattle.re_spans.specs.Leaves.{takes}

-- the letters from left to right
abbrev pub leaves_of : Tree → List Tree
leaves_of (Letter c) = Letter c ∷ []
leaves_of AnyLetter = AnyLetter ∷ []
leaves_of (OneOf negated spans) = OneOf negated spans ∷ []
leaves_of LineStart = []
leaves_of LineEnd = []
leaves_of (Then a b) = leaves_of a ++ leaves_of b
leaves_of (Either a b) = leaves_of a ++ leaves_of b
leaves_of (Many a) = leaves_of a
leaves_of (Several a) = leaves_of a
leaves_of (Maybe a) = leaves_of a
leaves_of (Group n a) = leaves_of a

-- whether the letter of a number takes the rune
abbrev pub taken_by : List Tree → ℕ → ℕ → Bool
taken_by [] d n = false
taken_by (x ∷ xs) d zero = takes x d
taken_by (x ∷ xs) d (suc n) = taken_by xs d n

-- the letters that take the rune, as bits, where the first of the list has this number and these were found before
abbrev pub taken_from : List Tree → ℕ → ℕ → ℕ → ℕ
taken_from [] d n found = found
taken_from (x ∷ xs) d n found = taken_from xs d (n + 1) (if takes x d then bit_or found (2 ^ n) else found)

-- the letters that take the rune
abbrev pub taken_word : List Tree → ℕ → ℕ
taken_word leaves d = taken_from leaves d 0 0
