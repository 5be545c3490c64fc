-- Laws over the grammar of commands.
use Rattle.std.specs.Prelude.{◌≡◌, ◌↔◌, ℕ, true, List, [], ◌∷◌, ◌++◌, Some}
use Rattle.re_syntax.specs.Tree as expression
use Rattle.addr_syntax.specs.Tree.{Missing}
use Rattle.edit_parts.specs.Tree as tree
use Rattle.edit_parts.specs.Tree.{Loop, Command, Print, Block}
use Rattle.edit_parts.specs.Pieces.{Piece, EndsLine, Loops, Opens, Closes}
use Rattle.sam_syntax.specs.Joined.{Line, Opened, Looping, Addressed, Ended, Reading, begin, is_done, command_of}
use Rattle.sam_syntax.specs.Joined.{commands_of, whole, after_pieces}
use Rattle.sam_syntax.specs.Grammar.{BeginsWith, IsEdit}
use Rattle.sam_syntax.specs.Written.{Writes}

-- a row of pieces is joined to this command
abbrev pub IsJoined : List Piece → Command → Type 0
IsJoined ps c = (r : Reading) × (after_pieces (Some begin) ps ≡ Some r) × (is_done r ≡ true) × (c ≡ whole r)

-- the pieces of a text are joined to a command exactly where their row writes it
abbrev pub JoinsAsWritten : Type 0
JoinsAsWritten = (text : List ℕ) (ps : List Piece) (c : Command) → BeginsWith ps text [] → IsJoined ps c ↔ Writes ps c

-- the pieces of the text write the command
abbrev pub IsWritten : List ℕ → Command → Type 0
IsWritten text c = (ps : List Piece) × BeginsWith ps text [] × Writes ps c

-- a text is a command exactly where its pieces write it
abbrev pub EditsAreWritten : Type 0
EditsAreWritten = (text : List ℕ) (c : Command) → IsEdit text c ↔ IsWritten text c

-- what a loop does behind which this stands: `p` where nothing does
abbrev pub body_of : Line → Command
body_of Opened = command_of Opened
body_of (Looping []) = (Missing, Print)
body_of (Looping (h ∷ hs)) = command_of (Looping (h ∷ hs))
body_of (Addressed heads a) = command_of (Addressed heads a)
body_of (Ended c) = command_of (Ended c)

-- a loop does all that stands behind it
abbrev pub LoopsTakeTheRest : Type 0
LoopsTakeTheRest =
    (kind : Loop) (re : expression.Tree) (ps : List Piece) (r : Reading) → after_pieces (Some begin) ps ≡ Some r
    → is_done r ≡ true →
    (s : Reading) × (after_pieces (Some begin) (Loops kind re ∷ ps) ≡ Some s) × (is_done s ≡ true)
    × (whole s ≡ (Missing, tree.Loops kind re (body_of r.line).0 (body_of r.line).1))

-- each of these lines is a command by itself
abbrev pub AreLines : List (List Piece) → List Command → Type 0
AreLines [] [] = Unit {0}
AreLines [] (c ∷ cs) = ⊥
AreLines (line ∷ lines) [] = ⊥
AreLines (line ∷ lines) (c ∷ cs) =
    ((r : Reading) × (after_pieces (Some begin) line ≡ Some r) × (is_done r ≡ true) × (whole r ≡ c)) × AreLines lines cs

-- the lines, each with its end
abbrev pub ended_lines : List (List Piece) → List Piece
ended_lines [] = []
ended_lines (line ∷ lines) = line ++ EndsLine ∷ ended_lines lines

-- the commands of a block are those of its lines, in their order
abbrev pub BlocksHoldTheirLines : Type 0
BlocksHoldTheirLines =
    (lines : List (List Piece)) (cs : List Command) → AreLines lines cs →
    after_pieces (Some begin) (Opens ∷ EndsLine ∷ (ended_lines lines ++ Closes ∷ []))
    ≡ Some (record { blocks = []; line = Ended (Missing, Block (commands_of cs)) })
