-- Laws over the pieces of commands.
use Rattle.std.specs.Prelude.{◌≡◌, ℕ, true, List, [], ◌++◌, Option, Some}
use Rattle.edit_parts.specs.Kinds.{ends_line}
use Rattle.edit_parts.specs.Pieces.{Piece, IsPiece}

-- with these runes more a piece may stand at the end of a line; a piece before a rune needs none
abbrev pub MayEndLine : Piece → List ℕ → Option ℕ → Type 0
MayEndLine p piece next =
    (more : List ℕ) × ((c : ℕ) → next ≡ Some c → more ≡ [])
    × ((end : Option ℕ) → ends_line end ≡ true → IsPiece p (piece ++ more) end)
