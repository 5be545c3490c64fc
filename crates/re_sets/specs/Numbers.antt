-- The letters of a tree by number, and sets of them as bits.
use Rattle.std.specs.Prelude.{◌≡◌, ◌<◌, ◌+◌, ◌==◌, ◌&&◌, ◌||◌, ◌⊎◌, ℕ, zero, suc, Bool, true, false, IsTrue}
use Rattle.re_syntax.specs.Tree.{Tree, Letter, AnyLetter, OneOf, LineStart, LineEnd, Then, Either, Many, Several, Maybe}
use Rattle.re_syntax.specs.Tree.{Group}
use Rattle.re_spans.specs.declared.leaf.Here.{Here}
use Rattle.re_sets.specs.Readings.{Reading, Spans, Null}
use Rattle.re_sets.specs.Spots.{Spot, Only, InLeft, InRight, only, sides, takes_at, null, first, last, follow, After}

-- how many letters a tree has
abbrev pub letters : Tree → ℕ
letters (Letter c) = 1
letters AnyLetter = 1
letters (OneOf negated spans) = 1
letters LineStart = 0
letters LineEnd = 0
letters (Then a b) = letters a + letters b
letters (Either a b) = letters a + letters b
letters (Many a) = letters a
letters (Several a) = letters a
letters (Maybe a) = letters a
letters (Group n a) = letters a

-- a letter stands there
abbrev pub is_letter : Tree → Spot → Bool
is_letter (Letter c) p = only true p
is_letter AnyLetter p = only true p
is_letter (OneOf negated spans) p = only true p
is_letter LineStart p = false
is_letter LineEnd p = false
is_letter (Then a b) p = sides (is_letter a) (is_letter b) p
is_letter (Either a b) p = sides (is_letter a) (is_letter b) p
is_letter (Many a) p = is_letter a p
is_letter (Several a) p = is_letter a p
is_letter (Maybe a) p = is_letter a p
is_letter (Group n a) p = is_letter a p

-- a number by the side that a letter is on
abbrev pub of_sides : (Spot → ℕ) → (Spot → ℕ) → Spot → ℕ
of_sides f g Only = 0
of_sides f g (InLeft p) = f p
of_sides f g (InRight p) = g p

-- the number of a letter, from left to right, where the first of the tree has this one
abbrev pub number : Tree → ℕ → Spot → ℕ
number (Letter c) base p = base
number AnyLetter base p = base
number (OneOf negated spans) base p = base
number LineStart base p = base
number LineEnd base p = base
number (Then a b) base p = of_sides (number a base) (number b (base + letters a)) p
number (Either a b) base p = of_sides (number a base) (number b (base + letters a)) p
number (Many a) base p = number a base p
number (Several a) base p = number a base p
number (Maybe a) base p = number a base p
number (Group n a) base p = number a base p

-- the bits of a set of letters
abbrev pub bits : Tree → ℕ → (Spot → Bool) → ℕ → Bool
bits (Letter c) base s n = (n == base) && s Only
bits AnyLetter base s n = (n == base) && s Only
bits (OneOf negated spans) base s n = (n == base) && s Only
bits LineStart base s n = false
bits LineEnd base s n = false
bits (Then a b) base s n = bits a base (λ p. s (InLeft p)) n || bits b (base + letters a) (λ p. s (InRight p)) n
bits (Either a b) base s n = bits a base (λ p. s (InLeft p)) n || bits b (base + letters a) (λ p. s (InRight p)) n
bits (Many a) base s n = bits a base s n
bits (Several a) base s n = bits a base s n
bits (Maybe a) base s n = bits a base s n
bits (Group m a) base s n = bits a base s n

-- bit n of row m
abbrev pub rows : Tree → ℕ → (Spot → Spot → Bool) → ℕ → ℕ → Bool
rows r base f m n = bits r base (λ p. bits r base (f p) n) m

-- a number below n passes
abbrev pub any_below : (ℕ → Bool) → ℕ → Bool
any_below f zero = false
any_below f (suc n) = f n || any_below f n

-- the letters after one rune more
abbrev pub step : Tree → Here → ℕ → (ℕ → Bool) → ℕ → Bool
step r x d s n = any_below (λ m. s m && rows r 0 (follow r x) m n) (letters r) && bits r 0 (takes_at r d) n

-- the letters of the first rune
abbrev pub enter : Tree → Here → ℕ → ℕ → Bool
enter r x d n = bits r 0 (first r x) n && bits r 0 (takes_at r d) n

-- a match may end here
abbrev pub is_end : Tree → Here → (ℕ → Bool) → Bool
is_end r x s = any_below (λ m. s m && bits r 0 (last r x) m) (letters r)

-- a match that came to k by a letter of the set may end at j
abbrev pub Leads : Tree → Reading → (ℕ → Bool) → ℕ → ℕ → Type 0
Leads r w s k j = (p : Spot) × IsTrue (s (number r 0 p)) × After r w p k j

-- a match that begins at i has come by this letter over so many runes more than one
pub data Came (r : Tree) (w : Reading) (i : ℕ) : ℕ → Spot → Type 0 where
  begun : (q : Spot) → IsTrue (is_letter r q) → IsTrue (first r (w.here i) q) → IsTrue (takes_at r (w.rune i) q)
      → Came r w i 0 q
  gone : (n : ℕ) (p q : Spot) → Came r w i n p → IsTrue (is_letter r q) → IsTrue (follow r (w.here (i + 1 + n)) p q)
      → IsTrue (takes_at r (w.rune (i + 1 + n)) q) → Came r w i (n + 1) q

-- the letters of the matches that begin at i, over k runes more than one
abbrev pub run : Tree → Reading → ℕ → ℕ → ℕ → Bool
run r w i zero n = enter r (w.here i) (w.rune i) n
run r w i (suc k) n = step r (w.here (i + 1 + k)) (w.rune (i + 1 + k)) (run r w i k) n
