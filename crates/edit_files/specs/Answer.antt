-- What reading a command answers.
use Rattle.std.specs.Prelude.{◌≡◌, ◌+◌, ℕ, true, false, List, [], ◌∷◌, ◌++◌, length, drop, Option, Some, None}
use Rattle.std.specs.Prelude.{Result, Ok, Err}
use Rattle.addr_syntax.specs.declared.address.SynFault.{SynFault}
use Rattle.addr_syntax.specs.declared.address.SynFault.TheVariants.{Bad, Nodes, Deep, NoMemory}
use Rattle.edit_parts.specs.Tree.{Command}
use Rattle.edit_parts.specs.declared.command.Cmd.{Cmd}
use Rattle.sam_syntax.specs.Limits as edit
use Rattle.edit_files.specs.Command.{FilesCommand, is_large, is_deep}
use Rattle.edit_files.specs.Files.{files_of}

module _ {X : Type 0} where
  -- with some runes more the text is one
  abbrev pub GoesOn : (List ℕ → Option X) → List ℕ → Type 0
  GoesOn read front = (more : List ℕ) × (x : X) × (read (front ++ more) ≡ Some x)

  -- none goes on behind the front with the next rune, or ends there with the text
  abbrev pub Stops : (List ℕ → Option X) → List ℕ → List ℕ → Type 0
  Stops read front [] = read front ≡ None
  Stops read front (c ∷ cs) = (rest : List ℕ) → read (front ++ c ∷ rest) ≡ None

  -- the place is the first at which nothing that is read so goes on, or where a text that only stops short ends
  pub record IsBadAt (read : List ℕ → Option X) (text : List ℕ) (place : ℕ) : Type 0 where
    pub front : List ℕ
    pub behind : List ℕ
    pub cut : text ≡ front ++ behind
    pub there : place ≡ length front
    pub before : GoesOn read front
    pub after : Stops read front behind

  -- the same of the text from a place on
  abbrev pub IsBadFrom : (List ℕ → Option X) → List ℕ → ℕ → ℕ → Type 0
  IsBadFrom read text from place = (q : ℕ) × (place ≡ from + q) × IsBadAt read (drop from text) q

  -- why a part without limits isn't read
  abbrev pub PartFails : (List ℕ → Option X) → List ℕ → ℕ → SynFault → Type 0
  PartFails read text from (Bad place) = IsBadFrom read text from place
  PartFails read text from Nodes = ⊥
  PartFails read text from Deep = ⊥
  PartFails read text from NoMemory = Unit {0}

-- why a command of sam isn't read
abbrev pub EditFails : (List ℕ → Option Command) → List ℕ → ℕ → SynFault → Type 0
EditFails read text from (Bad place) = IsBadFrom read text from place
EditFails read text from Nodes = (c : Command) × (read (drop from text) ≡ Some c) × (edit.is_large c ≡ true)
EditFails read text from Deep =
    (c : Command) × (read (drop from text) ≡ Some c) × (edit.is_large c ≡ false) × (edit.is_deep c ≡ true)
EditFails read text from NoMemory = Unit {0}

-- why a command isn't read
abbrev pub FilesFails : (List ℕ → Option FilesCommand) → List ℕ → ℕ → SynFault → Type 0
FilesFails read text from (Bad place) = IsBadFrom read text from place
FilesFails read text from Nodes = (c : FilesCommand) × (read (drop from text) ≡ Some c) × (is_large c ≡ true)
FilesFails read text from Deep =
    (c : FilesCommand) × (read (drop from text) ≡ Some c) × (is_large c ≡ false) × (is_deep c ≡ true)
FilesFails read text from NoMemory = Unit {0}

-- the command is inside the limits: no expression of more than 2,048 nodes, at most 32 levels, no address of
-- more than 1,024 operators
pub record IsInLimits (c : FilesCommand) : Type 0 where
  pub nodes : is_large c ≡ false
  pub depth : is_deep c ≡ false

-- which limit a command passes
abbrev pub PassesLimit : FilesCommand → SynFault → Type 0
PassesLimit c (Bad place) = ⊥
PassesLimit c Nodes = is_large c ≡ true
PassesLimit c Deep = (is_large c ≡ false) × (is_deep c ≡ true)
PassesLimit c NoMemory = ⊥

-- why a text is refused; want of memory explains nothing
abbrev pub Refuses : List ℕ → SynFault → Type 0
Refuses text (Bad place) = IsBadAt files_of text place
Refuses text Nodes = (c : FilesCommand) × (files_of text ≡ Some c) × (is_large c ≡ true)
Refuses text Deep = (c : FilesCommand) × (files_of text ≡ Some c) × (is_large c ≡ false) × (is_deep c ≡ true)
Refuses text NoMemory = Unit {0}

-- what is told of a command whose expression has too many nodes: a fault of the grammar goes before that
abbrev pub past : Result Cmd SynFault → SynFault
past (Ok c) = Nodes
past (Err (Bad place)) = Bad place
past (Err Nodes) = Nodes
past (Err Deep) = Nodes
past (Err NoMemory) = NoMemory
