-- The command of Edit that a text is, if it is one.
use Rattle.std.specs.Prelude.{ℕ, zero, suc, ◌&&◌, not, List, [], ◌∷◌, length, Option, Some, None, if◌then◌else◌}
use Rattle.std.specs.Option.{option_map}
use Rattle.edit_parts.specs.Tree.{Command}
use Rattle.edit_parts.specs.Pieces.{Piece}
use Rattle.sam_syntax.specs.Limits.{is_large, is_deep}
use Rattle.sam_syntax.specs.Joined.{Reading, begin, is_done, whole, after_pieces}
use Rattle.sam_syntax.specs.Cuts.{Cut}
use Rattle.sam_syntax.specs.Pieces.{first_piece}

-- a piece before those of what stands behind it
abbrev pub with_piece : Cut Piece → (List ℕ → Option (List Piece)) → Option (List Piece)
with_piece None pieces = None
with_piece (Some (p, behind)) pieces = option_map (λ ps. p ∷ ps) (pieces behind)

-- at most n pieces, which are the whole text
unfoldable pub pieces_within : ℕ → List ℕ → Option (List Piece)
pieces_within n [] = Some []
pieces_within zero (c ∷ cs) = None
pieces_within (suc n) (c ∷ cs) = with_piece (first_piece (c ∷ cs)) (λ behind. pieces_within n behind)

-- the pieces that a text is; each has a rune at least
abbrev pub pieces_of : List ℕ → Option (List Piece)
pieces_of text = pieces_within (length text) text

-- the command of all that was joined, where no block is open
abbrev pub whole_command : Option Reading → Option Command
whole_command None = None
whole_command (Some r) = if is_done r then Some (whole r) else None

-- the command of pieces, if there is one
abbrev pub command_of_pieces : Option (List Piece) → Option Command
command_of_pieces None = None
command_of_pieces (Some ps) = whole_command (after_pieces (Some begin) ps)

-- the command that a text is
unfoldable pub edit_of : List ℕ → Option Command
edit_of text = command_of_pieces (pieces_of text)

-- one with no expression of more than 2,048 nodes, at most 32 levels, and no address of more than 1,024 operators
abbrev pub small_one : Option Command → Option Command
small_one None = None
small_one (Some c) = if not (is_large c) && not (is_deep c) then Some c else None

-- the command that a text is, inside the limits
abbrev pub small_edit : List ℕ → Option Command
small_edit text = small_one (edit_of text)
