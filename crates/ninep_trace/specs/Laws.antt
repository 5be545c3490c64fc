-- Each line in words has one meaning, and each meaning one spelling.
use Rattle.std.specs.Prelude.{◌≡◌, ℕ, false, List, ◌∷◌, ◌++◌, Some}
use Rattle.am_text.specs.Ascii.{newline}
use Rattle.am_text.specs.Lines.{lines_of}
use Rattle.am_journal.specs.Journal.{is_report}
use Rattle.ninep_trace.specs.declared.line.Line.{Line}
use Rattle.ninep_trace.specs.Words.{line_words, IsWorded}
use Rattle.ninep_trace.specs.Reading.{line_of}

-- What is spelled so is read.
abbrev pub ReadsAgain : Type 0
ReadsAgain = (l : Line) → IsWorded l → line_of (line_words l) ≡ Some l

-- What is read is spelled so, and has words.
abbrev pub ReadsOnly : Type 0
ReadsOnly = (bytes : List ℕ) (l : Line) → line_of bytes ≡ Some l → IsWorded l × (bytes ≡ line_words l)

-- Each stands in a line of its own, and is no line `report`.
pub record StandsInLine (l : Line) : Type 0 where
  pub alone : (rest : List ℕ) → lines_of (line_words l ++ newline ∷ rest) ≡ line_words l ∷ lines_of rest
  pub no_report : is_report (line_words l) ≡ false

-- the words of a line stand in one line
abbrev pub StandInLines : Type 0
StandInLines = (l : Line) → IsWorded l → StandsInLine l
