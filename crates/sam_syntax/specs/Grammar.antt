-- Which texts are commands.
use Rattle.std.specs.Prelude.{◌≡◌, ℕ, true, List, [], ◌∷◌, ◌++◌, Some}
use Rattle.addr_syntax.specs.Marks.{next_of}
use Rattle.edit_parts.specs.Tree.{Command}
use Rattle.edit_parts.specs.Pieces.{Piece, IsPiece}
use Rattle.sam_syntax.specs.Joined.{Reading, begin, is_done, whole, after_pieces}

-- a text begins with these pieces, and this is the rest after them
abbrev pub BeginsWith : List Piece → List ℕ → List ℕ → Type 0
BeginsWith [] text rest = text ≡ rest
BeginsWith (p ∷ ps) text rest =
    (piece behind : List ℕ) × (text ≡ piece ++ behind) × IsPiece p piece (next_of behind) × BeginsWith ps behind rest

-- the whole text is this command: its pieces, joined, with no block left open
abbrev pub IsEdit : List ℕ → Command → Type 0
IsEdit text c =
    (ps : List Piece) × (r : Reading) × BeginsWith ps text [] × (after_pieces (Some begin) ps ≡ Some r)
    × (is_done r ≡ true) × (c ≡ whole r)

-- a command begins with this text
abbrev pub GoesOn : List ℕ → Type 0
GoesOn text = (rest : List ℕ) × (c : Command) × IsEdit (text ++ rest) c
