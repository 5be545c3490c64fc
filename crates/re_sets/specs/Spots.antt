-- The letters of a tree, and which of them may follow one another at a place.
use Rattle.std.specs.Prelude.{◌≡◌, ◌<◌, ◌+◌, ◌&&◌, ◌||◌, ◌⊎◌, ℕ, Bool, true, false, IsTrue}
use Rattle.re_syntax.specs.Tree.{Tree, Letter, AnyLetter, OneOf, LineStart, LineEnd, Then, Either, Many, Several, Maybe}
use Rattle.re_syntax.specs.Tree.{Group}
use Rattle.re_syntax.specs.Match.{Repeats, Joins}
use Rattle.re_spans.specs.Leaves.{takes, is_null}
use Rattle.re_spans.specs.declared.leaf.Here.{Here}
use Rattle.re_sets.specs.Readings.{Reading, Spans, Null}

-- where a letter stands in a tree: parts of one part alone aren't told
pub data Spot : Type 0 where
  Only : Spot
  InLeft : (p : Spot) → Spot
  InRight : (p : Spot) → Spot

-- the tree is a letter itself, and passes
abbrev pub only : Bool → Spot → Bool
only is Only = is
only is (InLeft p) = false
only is (InRight p) = false

-- a test by the side that a letter is on
abbrev pub sides : (Spot → Bool) → (Spot → Bool) → Spot → Bool
sides f g Only = false
sides f g (InLeft p) = f p
sides f g (InRight p) = g p

-- no letter passes
abbrev pub none : Spot → Bool
none p = false

-- the letter takes the rune
abbrev pub takes_at : Tree → ℕ → Spot → Bool
takes_at (Letter c) d p = only (takes (Letter c) d) p
takes_at AnyLetter d p = only (takes AnyLetter d) p
takes_at (OneOf negated spans) d p = only (takes (OneOf negated spans) d) p
takes_at LineStart d p = false
takes_at LineEnd d p = false
takes_at (Then a b) d p = sides (takes_at a d) (takes_at b d) p
takes_at (Either a b) d p = sides (takes_at a d) (takes_at b d) p
takes_at (Many a) d p = takes_at a d p
takes_at (Several a) d p = takes_at a d p
takes_at (Maybe a) d p = takes_at a d p
takes_at (Group n a) d p = takes_at a d p

-- the tree matches the null text here
abbrev pub null : Tree → Here → Bool
null (Letter c) x = false
null AnyLetter x = false
null (OneOf negated spans) x = false
null LineStart x = is_null LineStart x
null LineEnd x = is_null LineEnd x
null (Then a b) x = null a x && null b x
null (Either a b) x = null a x || null b x
null (Many a) x = true
null (Several a) x = null a x
null (Maybe a) x = true
null (Group n a) x = null a x

-- with which letters a match that begins here may begin
abbrev pub first : Tree → Here → Spot → Bool
first (Letter c) x q = only true q
first AnyLetter x q = only true q
first (OneOf negated spans) x q = only true q
first LineStart x q = false
first LineEnd x q = false
first (Then a b) x q = sides (first a x) (λ s. null a x && first b x s) q
first (Either a b) x q = sides (first a x) (first b x) q
first (Many a) x q = first a x q
first (Several a) x q = first a x q
first (Maybe a) x q = first a x q
first (Group n a) x q = first a x q

-- a match that came here by this letter may end here
abbrev pub last : Tree → Here → Spot → Bool
last (Letter c) x p = only true p
last AnyLetter x p = only true p
last (OneOf negated spans) x p = only true p
last LineStart x p = false
last LineEnd x p = false
last (Then a b) x p = sides (λ s. last a x s && null b x) (last b x) p
last (Either a b) x p = sides (last a x) (last b x) p
last (Many a) x p = last a x p
last (Several a) x p = last a x p
last (Maybe a) x p = last a x p
last (Group n a) x p = last a x p

-- a test of two letters by the sides that they are on; none goes back from the right to the left
abbrev pub both_sides : (Spot → Spot → Bool) → (Spot → Spot → Bool) → (Spot → Spot → Bool) → Spot → Spot → Bool
both_sides f g h Only q = false
both_sides f g h (InLeft p) q = sides (f p) (g p) q
both_sides f g h (InRight p) q = sides none (h p) q

-- with which letters a match that came here by this one may go on
abbrev pub follow : Tree → Here → Spot → Spot → Bool
follow (Letter c) x p q = false
follow AnyLetter x p q = false
follow (OneOf negated spans) x p q = false
follow LineStart x p q = false
follow LineEnd x p q = false
follow (Then a b) x p q = both_sides (follow a x) (λ s u. last a x s && first b x u) (follow b x) p q
follow (Either a b) x p q = both_sides (follow a x) (λ s u. false) (follow b x) p q
follow (Many a) x p q = follow a x p q || (last a x p && first a x q)
follow (Several a) x p q = follow a x p q || (last a x p && first a x q)
follow (Maybe a) x p q = follow a x p q
follow (Group n a) x p q = follow a x p q

-- the tree is a letter itself, and this holds
abbrev pub Only' : Type 0 → Spot → Type 0
Only' A Only = A
Only' A (InLeft p) = ⊥
Only' A (InRight p) = ⊥

-- what holds by the side that a letter is on
abbrev pub Sides : (Spot → Type 0) → (Spot → Type 0) → Spot → Type 0
Sides F G Only = ⊥
Sides F G (InLeft p) = F p
Sides F G (InRight p) = G p

-- a match that came to k by this letter may end at j
abbrev pub After : Tree → Reading → Spot → ℕ → ℕ → Type 0
After (Letter c) w p k j = Only' (j ≡ k) p
After AnyLetter w p k j = Only' (j ≡ k) p
After (OneOf negated spans) w p k j = Only' (j ≡ k) p
After LineStart w p k j = ⊥
After LineEnd w p k j = ⊥
After (Then a b) w p k j = Sides (λ s. Joins (After a w s) (Spans b w) k j) (λ s. After b w s k j) p
After (Either a b) w p k j = Sides (λ s. After a w s k j) (λ s. After b w s k j) p
After (Many a) w p k j = Joins (After a w p) (Repeats (Spans a w)) k j
After (Several a) w p k j = Joins (After a w p) (Repeats (Spans a w)) k j
After (Maybe a) w p k j = After a w p k j
After (Group n a) w p k j = After a w p k j

-- one of these letters takes the rune at k, and then a match ends at j
abbrev pub Enters : Tree → Reading → (Spot → Bool) → ℕ → ℕ → Type 0
Enters r w E k j = (q : Spot) × IsTrue (E q) × (k < w.count) × IsTrue (takes_at r (w.rune k) q) × After r w q (k + 1) j

-- a match ends here, or goes on with one of these letters and ends at j
abbrev pub Goes : Tree → Reading → Bool → (Spot → Bool) → ℕ → ℕ → Type 0
Goes r w ends E k j = Null ends k j ⊎ Enters r w E k j

-- the letters of a path, from the place k up to the end at j
pub data Path (r : Tree) (w : Reading) : Spot → ℕ → ℕ → Type 0 where
  ends : (p : Spot) (k : ℕ) → IsTrue (last r (w.here k) p) → Path r w p k k
  takes_one : (p q : Spot) (k j : ℕ) → IsTrue (follow r (w.here k) p q) → k < w.count → IsTrue (takes_at r (w.rune k) q)
      → Path r w q (k + 1) j → Path r w p k j
