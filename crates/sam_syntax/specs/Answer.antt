-- What reading a command answers.
use Rattle.std.specs.Prelude.{◌≡◌, ◌≤◌, ◌<◌, ◌+◌, ℕ, true, false, List, length, drop, slice_range, Some}
use Rattle.addr_syntax.specs.declared.address.SynFault.{SynFault}
use Rattle.addr_syntax.specs.declared.address.SynFault.TheVariants.{Bad, Nodes, Deep, NoMemory}
use Rattle.edit_parts.specs.Tree.{Command}
use Rattle.edit_parts.specs.Pieces.{Piece}
use Rattle.sam_syntax.specs.Limits.{is_large, is_deep}
use Rattle.sam_syntax.specs.Joined.{Reading, begin, after_pieces}
use Rattle.sam_syntax.specs.Grammar.{BeginsWith, IsEdit, GoesOn}

-- the place is the first at which no command goes on, or where a text that only stops short ends
pub record IsBad (text : List ℕ) (place : ℕ) : Type 0 where
  pub within : place ≤ length text
  pub before : GoesOn (slice_range text 0 place)
  pub after : place < length text → GoesOn (slice_range text 0 (place + 1)) → ⊥
  pub short : place ≡ length text → (c : Command) → IsEdit text c → ⊥

-- the command is inside the limits: no expression of more than 2,048 nodes, at most 32 levels, no address of
-- more than 1,024 operators
pub record IsInLimits (c : Command) : Type 0 where
  pub nodes : is_large c ≡ false
  pub depth : is_deep c ≡ false

-- why a text is refused; want of memory explains nothing
abbrev pub Refuses : List ℕ → SynFault → Type 0
Refuses text (Bad place) = IsBad text place
Refuses text Nodes = (c : Command) × IsEdit text c × (is_large c ≡ true)
Refuses text Deep = (c : Command) × IsEdit text c × (is_large c ≡ false) × (is_deep c ≡ true)
Refuses text NoMemory = Unit {0}

-- the text before the place is cut into pieces, and joining them gives this
pub record Reaches (text : List ℕ) (at : ℕ) (r : Reading) : Type 0 where
  pub pieces : List Piece
  pub within : at ≤ length text
  pub cut : BeginsWith pieces text (drop at text)
  pub joins : after_pieces (Some begin) pieces ≡ Some r
