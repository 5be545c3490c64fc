-- Laws over the grammar of addresses.
use Rattle.std.specs.Prelude.{◌≡◌, ◌↔◌, ℕ, Bool, true, false, List, [], ◌∷◌, ◌++◌, Some}
use Rattle.addr_syntax.specs.Tree.{Tree}
use Rattle.addr_syntax.specs.Pieces.{Piece, Part, Adds, Splits}
use Rattle.addr_syntax.specs.Joined.{Reading, begin, by_sign, by_separator, may_follow, whole, after_pieces}
use Rattle.addr_syntax.specs.Grammar.{IsAddress}
use Rattle.addr_syntax.specs.Addresses.{address_of}
use Rattle.addr_syntax.specs.declared.mark.Sign.{Sign}
use Rattle.addr_syntax.specs.declared.mark.Separator.{Separator}

-- there is no separator among the pieces
abbrev pub is_row : List Piece → Bool
is_row [] = true
is_row (Part a ∷ ps) = is_row ps
is_row (Adds k ∷ ps) = is_row ps
is_row (Splits k ∷ ps) = false

-- a separator has the tree of all before it on its left, and that of the row behind it on its right
abbrev pub SeparatorsJoinLast : Type 0
SeparatorsJoinLast =
    (ps qs : List Piece) (k : Separator) (r s : Reading) → is_row qs ≡ true → after_pieces (Some begin) ps ≡ Some r
    → after_pieces (Some begin) qs ≡ Some s →
    (t : Reading) × (after_pieces (Some begin) (ps ++ Splits k ∷ qs) ≡ Some t)
    × (whole t ≡ by_separator k (whole r) (whole s))

-- a sign has the tree of the row before it on its left, and the part behind it on its right
abbrev pub SignsJoinFromTheLeft : Type 0
SignsJoinFromTheLeft =
    (ps : List Piece) (k : Sign) (q : Tree) (r : Reading) → is_row ps ≡ true → may_follow q ≡ true
    → after_pieces (Some begin) ps ≡ Some r →
    (t : Reading) × (after_pieces (Some begin) (ps ++ Adds k ∷ Part q ∷ []) ≡ Some t)
    × (whole t ≡ by_sign k (whole r) q)

-- a text has a tree exactly where it is an address with that tree
abbrev pub TreesAreThose : Type 0
TreesAreThose = (text : List ℕ) (a : Tree) → (address_of text ≡ Some a) ↔ IsAddress text a
