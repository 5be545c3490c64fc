-- How far numbers and expressions reach, and where they are broken off.
use Rattle.std.specs.Prelude.{◌≡◌, ◌≤◌, ◌<◌, ◌+◌, ◌==◌, ◌⊎◌, ℕ, Bool, true, false, List, [], ◌∷◌, ◌++◌, length, drop}
use Rattle.std.specs.Prelude.{slice_range, nat_lt, slice_index, Option, Some, None, if◌then◌else◌}
use Rattle.std.specs.Char.{is_ascii_digit}
use Rattle.am_text.specs.Number.{number_after}
use Rattle.am_text.specs.Ascii.{backslash}
use Rattle.re_syntax.specs.Tree as expression
use Rattle.re_syntax.specs.Answer as answer
use Rattle.re_syntax.specs.declared.re.Re as re
use Rattle.addr_syntax.specs.Tree.{Tree}
use Rattle.addr_syntax.specs.Marks.{next_of}
use Rattle.addr_syntax.specs.Pieces.{Piece, Part, Adds, Splits, IsNumber, IsPiece}
use Rattle.addr_syntax.specs.Joined.{may_follow}
use Rattle.addr_syntax.specs.Read.{IsPart}
use Rattle.addr_syntax.specs.declared.address.Addr.{Addr, Fore, Back}
use Rattle.addr_syntax.specs.declared.address.SynFault.{SynFault}
use Rattle.addr_syntax.specs.declared.address.SynFault.TheVariants.{Bad, Nodes, Deep, NoMemory}
use Rattle.addr_syntax.specs.declared.reading.Token.{Token}
use Rattle.addr_syntax.specs.declared.reading.Token.TheVariants as token

-- the digits from one place up to another
pub record IsNumberAt (text : List ℕ) (from : ℕ) (n end : ℕ) : Type 0 where
  pub order : from < end
  pub within : end ≤ length text
  pub written : IsNumber n (slice_range text from end) (next_of (drop end text))

-- no digit stands at the place, or one with which the number is too large
pub record IsBadNumber (text : List ℕ) (from place : ℕ) : Type 0 where
  pub order : from ≤ place
  pub within : place ≤ length text
  pub digits : (n : ℕ) × (number_after 0 (slice_range text from place) ≡ Some n)
  pub some : from < place → place < length text
  pub stops : place < length text → number_after 0 (slice_range text from (place + 1)) ≡ None
  pub digit : from < place → is_ascii_digit (slice_index text place) ≡ true

-- why no number is read
abbrev pub NumberFails : List ℕ → ℕ → SynFault → Type 0
NumberFails text from (Bad place) = IsBadNumber text from place
NumberFails text from Nodes = ⊥
NumberFails text from Deep = ⊥
NumberFails text from NoMemory = ⊥

-- how many runes stand before the first delimiter behind no backslash; escaped says that one stands before the text
abbrev pub body_length : ℕ → Bool → List ℕ → ℕ
body_length d escaped [] = 0
body_length d true (c ∷ cs) = body_length d false cs + 1
body_length d false (c ∷ cs) = if d == c then 0 else body_length d (c == backslash) cs + 1

-- no delimiter stands behind no backslash, and no such backslash at the end
abbrev pub is_whole : ℕ → Bool → List ℕ → Bool
is_whole d true [] = false
is_whole d false [] = true
is_whole d true (c ∷ cs) = is_whole d false cs
is_whole d false (c ∷ cs) = if d == c then false else is_whole d (c == backslash) cs

-- an expression was read; None stands for a large one
abbrev pub IsExpressionAt : ℕ → List ℕ → ℕ → Option re.Re → ℕ → Type 0
IsExpressionAt d text from (Some e) end =
    answer.IsRead (Some d) text from end (expression.tree e)
    × (expression.nodes (expression.tree e) ≤ expression.most_nodes)
IsExpressionAt d text from None end =
    (r : expression.Tree) × answer.IsRead (Some d) text from end r × (expression.most_nodes < expression.nodes r)

-- why no expression is read
abbrev pub ExpressionFails : ℕ → List ℕ → ℕ → SynFault → Type 0
ExpressionFails d text from (Bad place) = answer.IsBad (Some d) text from place
ExpressionFails d text from Nodes = ⊥
ExpressionFails d text from Deep = ⊥
ExpressionFails d text from NoMemory = Unit {0}

-- a token is this piece
abbrev pub IsToken : Token → Piece → Type 0
IsToken (token.Begins a) p = (q : Tree) × (p ≡ Part q) × IsPart (Some a) q × (may_follow q ≡ false)
IsToken (token.Stands a) p = (q : Tree) × (p ≡ Part q) × IsPart a q × (may_follow q ≡ true)
IsToken (token.Adds k) p = p ≡ Adds k
IsToken (token.Splits k) p = p ≡ Splits k

-- the piece from one place up to another
pub record IsPieceAt (text : List ℕ) (from : ℕ) (p : Piece) (end : ℕ) : Type 0 where
  pub order : from < end
  pub within : end ≤ length text
  pub written : IsPiece p (slice_range text from end) (next_of (drop end text))

-- what may stand at the place: what does, and then anything, or nothing at the end
abbrev pub Continues : List ℕ → ℕ → List ℕ → Type 0
Continues text place more =
    ((place ≡ length text) × (more ≡ [])) ⊎ ((place < length text) × (behind : List ℕ)
    × (more ≡ slice_index text place ∷ behind))

-- a piece that may stand anywhere goes on up to the place, and none goes on there
pub record IsBadPiece (text : List ℕ) (from place : ℕ) : Type 0 where
  pub order : from ≤ place
  pub within : place ≤ length text
  pub before : from < place → (more : List ℕ) × (q : Tree) × IsPiece (Part q) (slice_range text from place ++ more) None
      × (may_follow q ≡ true)
  pub dead : (more : List ℕ) (p : Piece) (piece behind : List ℕ) → Continues text place more
      → slice_range text from place ++ more ≡ piece ++ behind → IsPiece p piece (next_of behind) → ⊥

-- why no piece is read
abbrev pub PieceFails : List ℕ → ℕ → SynFault → Type 0
PieceFails text from (Bad place) = IsBadPiece text from place
PieceFails text from Nodes = ⊥
PieceFails text from Deep = ⊥
PieceFails text from NoMemory = Unit {0}

-- the part of an expression that is searched for forward
abbrev pub forward_of : Option re.Re → Option Addr
forward_of None = None
forward_of (Some e) = Some (Fore e)

-- the part of one that is searched for backward
abbrev pub backward_of : Option re.Re → Option Addr
backward_of None = None
backward_of (Some e) = Some (Back e)

-- the place behind the last delimiter, which may be missing at the end of the text
abbrev pub behind_at : List ℕ → ℕ → ℕ
behind_at text end = if nat_lt end (length text) then end + 1 else end

-- the token from one place up to another
abbrev pub IsTokenAt : List ℕ → ℕ → Token → ℕ → Type 0
IsTokenAt text at t end = (p : Piece) × IsToken t p × IsPieceAt text at p end
