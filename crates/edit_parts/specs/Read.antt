-- What reading a part of a piece answers.
use Rattle.std.specs.Prelude.{◌≡◌, ◌≤◌, ◌<◌, ◌+◌, ◌==◌, not, ℕ, Bool, true, false, List, ◌++◌, length, drop}
use Rattle.std.specs.Prelude.{slice_range, slice_index, Option, Some, None}
use Rattle.am_text.specs.Ascii as ascii
use Rattle.re_syntax.specs.Tree as expression
use Rattle.re_syntax.specs.declared.re.Re.{Re}
use Rattle.addr_syntax.specs.Marks.{next_of, is_digit}
use Rattle.addr_syntax.specs.Scan.{is_whole, NumberFails}
use Rattle.addr_syntax.specs.declared.address.Limited.{Limited}
use Rattle.addr_syntax.specs.declared.address.SynFault.{SynFault}
use Rattle.addr_syntax.specs.declared.address.SynFault.TheVariants.{Bad, Nodes, Deep, NoMemory}
use Rattle.edit_parts.specs.Tree.{Action}
use Rattle.edit_parts.specs.Kinds.{ends_line}
use Rattle.edit_parts.specs.Texts.{are_lines, unescaped, Closed, Quoted}
use Rattle.edit_parts.specs.Pieces.{LoopsOver}
use Rattle.edit_parts.specs.Answer.{IsBuiltExpression, IsBuiltAction}
use Rattle.edit_parts.specs.declared.command.Act.{Act}
use Rattle.edit_parts.specs.declared.kind.Loop.{Loop}
use Rattle.edit_parts.specs.declared.kind.Loop.TheVariants.{ForEach, ForBetween, Where, WhereNot}

-- the text from one place up to another is what these relations say of a text and its rest, whatever
-- stands behind the next rune
pub record IsReadBy (r : List ℕ → List ℕ → Type 0) (text : List ℕ) (from end : ℕ) : Type 0 where
  pub order : from ≤ end
  pub within : end ≤ length text
  pub written : (rest : List ℕ) → next_of rest ≡ next_of (drop end text) → r (slice_range text from end ++ rest) rest

-- whatever comes next
abbrev pub anything : Option ℕ → Bool
anything next = true

-- a rune comes next that isn't a blank
abbrev pub is_solid : Option ℕ → Bool
is_solid None = false
is_solid (Some c) = not (c == ascii.space)

-- something goes on from one place up to another, and nothing does there
pub record IsBadBy (X : Type 0) (r : X → List ℕ → List ℕ → Type 0) (ends : Option ℕ → Bool) (text : List ℕ)
    (from place : ℕ) : Type 0 where
  pub order : from ≤ place
  pub within : place ≤ length text
  pub before : (more : List ℕ) × (x : X) × (from ≡ place → is_solid (next_of more) ≡ true)
      × ((rest : List ℕ) → ends (next_of rest) ≡ true → r x ((slice_range text from place ++ more) ++ rest) rest)
  pub dead : (more : List ℕ) → next_of more ≡ next_of (drop place text) → (x : X) (rest : List ℕ)
      → r x (slice_range text from place ++ more) rest → ⊥

-- why a part isn't read
abbrev pub PartFails : (X : Type 0) → (X → List ℕ → List ℕ → Type 0) → (Option ℕ → Bool) → List ℕ → ℕ
    → SynFault → Type 0
PartFails X r ends text from (Bad place) = IsBadBy X r ends text from place
PartFails X r ends text from Nodes = ⊥
PartFails X r ends text from Deep = ⊥
PartFails X r ends text from NoMemory = Unit {0}

-- where a text up to its `/` is
pub record IsClosedAt (text : List ℕ) (from end : ℕ) : Type 0 where
  pub order : from ≤ end
  pub inside : end < length text
  pub body : is_whole ascii.slash false (slice_range text from end) ≡ true
  pub slash : slice_index text end ≡ ascii.slash

-- where lines up to a line `.` are
pub record IsDotAt (text : List ℕ) (from end : ℕ) : Type 0 where
  pub order : from ≤ end
  pub inside : end < length text
  pub lines : are_lines true (slice_range text from end) ≡ true
  pub dot : slice_index text end ≡ ascii.dot
  pub ends : ends_line (next_of (drop (end + 1) text)) ≡ true

-- why a text isn't read, which ends where a line does
abbrev pub TextFails : (List ℕ → List ℕ → List ℕ → Type 0) → List ℕ → ℕ → SynFault → Type 0
TextFails r text from e = PartFails (List ℕ) r ends_line text from e

-- why a text isn't read up to its `/`
abbrev pub ClosedFails : List ℕ → ℕ → SynFault → Type 0
ClosedFails text from e = PartFails (List ℕ) Closed anything text from e

-- a number is too large
abbrev pub NthFails : List ℕ → ℕ → SynFault → Type 0
NthFails text from e = (is_digit (next_of (drop from text)) ≡ true) × NumberFails text from e

-- the text that the runes up to a `/` stand for
abbrev pub UnescapedTo : List ℕ → List ℕ → List ℕ → Type 0
UnescapedTo t text rest = (body : List ℕ) × (t ≡ unescaped false body) × Closed body text rest

-- why no `/re/` is read
abbrev pub QuotedFails : List ℕ → ℕ → SynFault → Type 0
QuotedFails text from e = PartFails expression.Tree Quoted anything text from e

-- the expression from one place up to another, written so
abbrev pub IsExpressionBy : (expression.Tree → List ℕ → List ℕ → Type 0) → List ℕ → ℕ → Option Re → ℕ → Type 0
IsExpressionBy r text from built end =
    (re : expression.Tree) × IsBuiltExpression built re × IsReadBy (r re) text from end

-- the loop over the matches, whose expression may be missing
abbrev pub is_for_each : Loop → Bool
is_for_each ForEach = true
is_for_each ForBetween = false
is_for_each Where = false
is_for_each WhereNot = false

-- why the expression of a loop isn't read
abbrev pub LoopFails : Loop → List ℕ → ℕ → SynFault → Type 0
LoopFails k text from e = PartFails expression.Tree (LoopsOver k) ends_line text from e

-- the action from one place up to another, written so
abbrev pub IsActionBy : (Action → List ℕ → List ℕ → Type 0) → List ℕ → ℕ → Limited Act → ℕ → Type 0
IsActionBy r text from built end = (act : Action) × IsBuiltAction built act × IsReadBy (r act) text from end

-- why an action isn't read
abbrev pub ActionFails : (Action → List ℕ → List ℕ → Type 0) → List ℕ → ℕ → SynFault → Type 0
ActionFails r text from e = PartFails Action r ends_line text from e
