-- Which texts are addresses, and which begin with one.
use Rattle.std.specs.Prelude.{◌≡◌, ℕ, false, List, [], ◌∷◌, ◌++◌, Option, Some}
use Rattle.addr_syntax.specs.Tree.{Tree}
use Rattle.addr_syntax.specs.Marks.{next_of, begins_piece}
use Rattle.addr_syntax.specs.Pieces.{Piece, BeginsWith}
use Rattle.addr_syntax.specs.Joined.{Reading, begin, whole, after_pieces}

-- the whole text is an address with this tree: one piece or more, joined
abbrev pub IsAddress : List ℕ → Tree → Type 0
IsAddress text a =
    (p : Piece) × (ps : List Piece) × (r : Reading) × BeginsWith (p ∷ ps) text []
    × (after_pieces (Some begin) (p ∷ ps) ≡ Some r) × (a ≡ whole r)

-- an address begins with this text
abbrev pub GoesOn : List ℕ → Type 0
GoesOn text = (rest : List ℕ) × (a : Tree) × IsAddress (text ++ rest) a

-- a text begins with an address, which is as long as it can be, and this is the rest behind it
abbrev pub Begins : Tree → List ℕ → List ℕ → Type 0
Begins a text rest =
    (p : Piece) × (ps : List Piece) × (r : Reading) × BeginsWith (p ∷ ps) text rest
    × (after_pieces (Some begin) (p ∷ ps) ≡ Some r) × (a ≡ whole r) × (begins_piece (next_of rest) ≡ false)

-- an address is written so, where this rune comes next, whatever stands behind that
abbrev pub IsWritten : Tree → List ℕ → Option ℕ → Type 0
IsWritten a text next = (rest : List ℕ) → next_of rest ≡ next → Begins a (text ++ rest) rest
