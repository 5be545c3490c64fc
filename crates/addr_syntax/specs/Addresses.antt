-- The tree of the address that a text is, if it is one.
use Rattle.std.specs.Prelude.{ℕ, zero, suc, false, ◌+◌, ◌==◌, ◌&&◌, not, nat_le, List, [], ◌∷◌, length, take, drop}
use Rattle.std.specs.Prelude.{Option, Some, None, if◌then◌else◌}
use Rattle.std.specs.Char.{is_ascii_digit}
use Rattle.std.specs.Option.{option_map}
use Rattle.am_text.specs.Number.{number_after}
use Rattle.am_text.specs.Ascii.{slash, question}
use Rattle.re_syntax.specs.Tree as expression
use Rattle.re_syntax.specs.Build.{level_tree}
use Rattle.re_syntax.specs.Read as re
use Rattle.addr_syntax.specs.Tree.{Tree, Dot, End, RuneAt, LineAt, Forward, Backward, operators, most_operators}
use Rattle.addr_syntax.specs.Tree.{is_large}
use Rattle.addr_syntax.specs.Marks.{mark_of}
use Rattle.addr_syntax.specs.Pieces.{Piece, Part, Adds, Splits}
use Rattle.addr_syntax.specs.Joined.{begin, whole, after_pieces}
use Rattle.addr_syntax.specs.Scan.{body_length}
use Rattle.addr_syntax.specs.declared.mark.Mark.{Mark}
use Rattle.addr_syntax.specs.declared.mark.Mark.TheVariants as mark

-- ---- expressions

-- the tree of all that was read, where an expression may end
abbrev pub tree_read : Option re.Reading → Option expression.Tree
tree_read None = None
tree_read (Some m) = if re.is_complete m.scanner then level_tree m.stack.top else None

-- the tree of the expression that a text is before this delimiter, if it is one
unfoldable pub expression_of : ℕ → List ℕ → Option expression.Tree
expression_of delimiter text = tree_read (re.reads (Some (re.begin (Some delimiter))) text)

-- ---- pieces

-- the piece that a text begins with, and what stands behind it
abbrev pub Cut : Type 0
Cut = Option (Piece × List ℕ)

-- how many digits a text begins with
abbrev pub digits : List ℕ → ℕ
digits [] = 0
digits (c ∷ cs) = if is_ascii_digit c then digits cs + 1 else 0

-- a part by its number, if there is one, and what stands behind it
abbrev pub cut_number : (ℕ → Tree) → List ℕ → Option ℕ → Cut
cut_number part behind None = None
cut_number part behind (Some n) = Some (Part (part n), behind)

-- the number that the digits at the front spell
abbrev pub number_piece : (ℕ → Tree) → List ℕ → Cut
number_piece part text =
    if digits text == 0 then None else cut_number part (drop (digits text) text)
    (number_after 0 (take (digits text) text))

-- what stands behind a delimiter, which may be missing at the end
abbrev pub behind_delimiter : List ℕ → List ℕ
behind_delimiter [] = []
behind_delimiter (d ∷ text) = text

-- a part by its expression, if there is one, and what stands behind it
abbrev pub cut_search : (expression.Tree → Tree) → List ℕ → Option expression.Tree → Cut
cut_search part behind None = None
cut_search part behind (Some r) = Some (Part (part r), behind)

-- the expression up to the first delimiter that stands behind no backslash
abbrev pub search_piece : (expression.Tree → Tree) → ℕ → List ℕ → Cut
search_piece part d text =
    cut_search part (behind_delimiter (drop (body_length d false text) text))
    (expression_of d (take (body_length d false text) text))

-- a piece by its first rune, and what follows that
abbrev pub piece_by : Mark → ℕ → List ℕ → Cut
piece_by (mark.Signs k) c cs = Some (Adds k, cs)
piece_by (mark.Separates k) c cs = Some (Splits k, cs)
piece_by mark.Dot c cs = Some (Part Dot, cs)
piece_by mark.Dollar c cs = Some (Part End, cs)
piece_by mark.Digit c cs = number_piece LineAt (c ∷ cs)
piece_by mark.Hash c cs = number_piece RuneAt cs
piece_by mark.Slash c cs = search_piece Forward slash cs
piece_by mark.Query c cs = search_piece Backward question cs
piece_by mark.Other c cs = None

-- the piece that a text begins with
abbrev pub first_piece : List ℕ → Cut
first_piece [] = None
first_piece (c ∷ cs) = piece_by (mark_of c) c cs

-- a piece before those of what stands behind it
abbrev pub with_piece : Cut → (List ℕ → Option (List Piece)) → Option (List Piece)
with_piece None pieces = None
with_piece (Some (p, behind)) pieces = option_map (λ ps. p ∷ ps) (pieces behind)

-- at most n pieces, which are the whole text
unfoldable pub pieces_within : ℕ → List ℕ → Option (List Piece)
pieces_within n [] = Some []
pieces_within zero (c ∷ cs) = None
pieces_within (suc n) (c ∷ cs) = with_piece (first_piece (c ∷ cs)) (λ behind. pieces_within n behind)

-- the pieces that a text is; each has a rune at least
abbrev pub pieces_of : List ℕ → Option (List Piece)
pieces_of text = pieces_within (length text) text

-- ---- addresses

-- the tree of pieces, of which there is one at least
abbrev pub tree_of_pieces : Option (List Piece) → Option Tree
tree_of_pieces None = None
tree_of_pieces (Some []) = None
tree_of_pieces (Some (p ∷ ps)) = option_map whole (after_pieces (Some begin) (p ∷ ps))

-- the tree of the address that a text is
unfoldable pub address_of : List ℕ → Option Tree
address_of text = tree_of_pieces (pieces_of text)

-- one with no expression of more than 2,048 nodes and at most 1,024 operators
abbrev pub small_one : Option Tree → Option Tree
small_one None = None
small_one (Some a) = if not (is_large a) && nat_le (operators a) most_operators then Some a else None

-- the address that a text is, inside the limits
abbrev pub small_address : List ℕ → Option Tree
small_address text = small_one (address_of text)
