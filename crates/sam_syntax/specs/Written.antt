-- Which rows of pieces write a command, by cases on its tree.
use Rattle.std.specs.Prelude.{◌≡◌, ◌≢◌, ◌⊎◌, List, [], ◌∷◌}
use Rattle.addr_syntax.specs.Tree as address
use Rattle.addr_syntax.specs.Tree.{Missing}
use Rattle.edit_parts.specs.Tree.{Action, Commands, Command, Nothing, Print, Loops, Block, Done, Then}
use Rattle.edit_parts.specs.Pieces as piece
use Rattle.edit_parts.specs.Pieces.{Piece, Blank, EndsLine, At, Opens, Closes, Does}

-- blanks may stand between any two pieces, and at both ends
abbrev pub without_blanks : List Piece → List Piece
without_blanks [] = []
without_blanks (Blank ∷ row) = without_blanks row
without_blanks (p ∷ row) = p ∷ without_blanks row

-- Each of these says: a row begins so, and this is the rest behind it.

-- an address, which may be left out, and then what is done there
abbrev pub AtAddress : address.Tree → (List Piece → List Piece → Type 0) → List Piece → List Piece → Type 0
AtAddress a Acts row rest =
    ((a ≡ Missing) × Acts row rest) ⊎ ((behind : List Piece) × (row ≡ At a ∷ behind) × Acts behind rest)

-- behind a loop stands its command; where nothing stands there, that is `p`
abbrev pub InLoop : address.Tree → Action → (List Piece → List Piece → Type 0) → List Piece → List Piece → Type 0
InLoop a act Acts row rest = ((row ≡ rest) × (a ≡ Missing) × (act ≡ Print)) ⊎ ((row ≢ rest) × AtAddress a Acts row rest)

abbrev mutual
  -- what a command does: nothing, a loop, a block that begins with `{` and a newline, or a letter with its parts
  pub Acts : Action → List Piece → List Piece → Type 0
  Acts Nothing row rest = row ≡ rest
  Acts (Loops kind re a act) row rest = (behind : List Piece) × (row ≡ piece.Loops kind re ∷ behind)
      × InLoop a act (Acts act) behind rest
  Acts (Block all) row rest = (lines : List Piece) × (row ≡ Opens ∷ EndsLine ∷ lines) × Lines all lines rest
  Acts act row rest = row ≡ Does act ∷ rest

  -- the commands of a block, each with a newline behind it, and `}`
  pub Lines : Commands → List Piece → List Piece → Type 0
  Lines Done row rest = row ≡ Closes ∷ rest
  Lines (Then a act more) row rest = (next : List Piece) × AtAddress a (Acts act) row (EndsLine ∷ next)
      × Lines more next rest

-- a command
abbrev pub Begins : Command → List Piece → List Piece → Type 0
Begins c row rest = AtAddress c.0 (Acts c.1) row rest

-- the whole row writes the command
abbrev pub Writes : List Piece → Command → Type 0
Writes row c = Begins c (without_blanks row) []
