-- What reading an address answers.
use Rattle.std.specs.Prelude.{◌≡◌, ◌≤◌, ◌<◌, ◌+◌, ◌⊎◌, ℕ, true, false, List, ◌++◌, length, drop, slice_range, Option}
use Rattle.std.specs.Prelude.{Some, None}
use Rattle.addr_syntax.specs.Tree.{Tree, tree, operators, most_operators, is_large}
use Rattle.addr_syntax.specs.Marks.{next_of, begins_piece}
use Rattle.addr_syntax.specs.Pieces.{Piece, BeginsWith}
use Rattle.addr_syntax.specs.Joined.{Reading, begin, after_piece, after_pieces}
use Rattle.addr_syntax.specs.Grammar.{IsAddress, GoesOn, Begins, IsWritten}
use Rattle.addr_syntax.specs.declared.address.Addr.{Addr}
use Rattle.addr_syntax.specs.declared.address.Limited.{Limited}
use Rattle.addr_syntax.specs.declared.address.Limited.TheVariants as limited
use Rattle.addr_syntax.specs.Scan.{IsPieceAt, IsBadPiece}
use Rattle.addr_syntax.specs.Read.{Follows}
use Rattle.addr_syntax.specs.declared.reading.Progress.{Progress}
use Rattle.addr_syntax.specs.declared.address.SynFault.{SynFault}
use Rattle.addr_syntax.specs.declared.address.SynFault.TheVariants.{Bad, Nodes, Deep, NoMemory}

-- the place is the first at which no address goes on, or where a text that only stops short ends
pub record IsBad (text : List ℕ) (place : ℕ) : Type 0 where
  pub within : place ≤ length text
  pub before : GoesOn (slice_range text 0 place)
  pub after : place < length text → GoesOn (slice_range text 0 (place + 1)) → ⊥
  pub short : place ≡ length text → (a : Tree) → IsAddress text a → ⊥

-- the tree is inside the limits: no expression of more than 2,048 nodes, at most 1,024 operators
pub record IsInLimits (a : Tree) : Type 0 where
  pub nodes : is_large a ≡ false
  pub depth : operators a ≤ most_operators

-- why a text is refused; want of memory explains nothing
abbrev pub Refuses : List ℕ → SynFault → Type 0
Refuses text (Bad place) = IsBad text place
Refuses text Nodes = (a : Tree) × IsAddress text a × (is_large a ≡ true)
Refuses text Deep = (a : Tree) × IsAddress text a × (is_large a ≡ false) × (most_operators < operators a)
Refuses text NoMemory = Unit {0}

-- the text before the place is cut into pieces, and joining them gives this
pub record Reaches (text : List ℕ) (at : ℕ) (r : Reading) : Type 0 where
  pub pieces : List Piece
  pub within : at ≤ length text
  pub cut : BeginsWith pieces text (drop at text)
  pub joins : after_pieces (Some begin) pieces ≡ Some r

-- the text from one place to another is cut into pieces, and joining them gives this
pub record ReachesFrom (text : List ℕ) (from at : ℕ) (r : Reading) : Type 0 where
  pub pieces : List Piece
  pub order : from ≤ at
  pub within : at ≤ length text
  pub cut : BeginsWith pieces (drop from text) (drop at text)
  pub joins : after_pieces (Some begin) pieces ≡ Some r

-- one piece more, up to a place
abbrev pub IsStep : List ℕ → ℕ → Reading → Progress → ℕ → Type 0
IsStep text at r new end =
    (p : Piece) × (s : Reading) × IsPieceAt text at p end × (after_piece r p ≡ Some s) × Follows new s

-- no piece is written here, or one with which no address goes on
abbrev pub StepFails : List ℕ → ℕ → Reading → SynFault → Type 0
StepFails text at r (Bad place) =
    IsBadPiece text at place ⊎ ((place ≡ at) × (p : Piece) × (end : ℕ) × IsPieceAt text at p end
    × (after_piece r p ≡ None))
StepFails text at r Nodes = ⊥
StepFails text at r Deep = ⊥
StepFails text at r NoMemory = Unit {0}

-- nothing is read yet
abbrev pub LimitedFails : ℕ → Reading → SynFault → Type 0
LimitedFails at r (Bad place) = (place ≡ at) × (r ≡ begin)
LimitedFails at r Nodes = ⊥
LimitedFails at r Deep = ⊥
LimitedFails at r NoMemory = Unit {0}

-- what is built of an address: all of it inside the limits
abbrev pub IsLimited : Limited Addr → Tree → Type 0
IsLimited (limited.Whole built) a = (tree built ≡ a) × IsInLimits a
IsLimited limited.Deep a = (is_large a ≡ false) × (most_operators < operators a)
IsLimited limited.Large a = is_large a ≡ true

-- the address from one place up to another
pub record IsAddressAt (text : List ℕ) (from : ℕ) (a : Tree) (end : ℕ) : Type 0 where
  pub order : from < end
  pub within : end ≤ length text
  pub written : IsWritten a (slice_range text from end) (next_of (drop end text))

-- an address goes on from one place up to another, and none does there
pub record IsBadFrom (text : List ℕ) (from place : ℕ) : Type 0 where
  pub order : from ≤ place
  pub within : place ≤ length text
  pub before : (more : List ℕ) × (a : Tree) × ((next : Option ℕ) → begins_piece next ≡ false
      → IsWritten a (slice_range text from place ++ more) next)
  pub dead : (more : List ℕ) → next_of more ≡ next_of (drop place text) → (a : Tree) (rest : List ℕ)
      → Begins a (slice_range text from place ++ more) rest → ⊥

-- what is built is the address from one place up to another
abbrev pub IsReadAt : List ℕ → ℕ → Limited Addr → ℕ → Type 0
IsReadAt text from built end = (a : Tree) × IsLimited built a × IsAddressAt text from a end

-- why no address is read there
abbrev pub FailsFrom : List ℕ → ℕ → SynFault → Type 0
FailsFrom text from (Bad place) = IsBadFrom text from place
FailsFrom text from Nodes = ⊥
FailsFrom text from Deep = ⊥
FailsFrom text from NoMemory = Unit {0}
