-- Where whole sets end in a text of rules that is still being written.
use Rattle.std.specs.Prelude.{◌≡◌, ℕ, ◌+◌, ◌≤◌, Bool, false, ◌&&◌, ◌||◌, ◌==◌, not, List, [], ◌∷◌, ◌++◌, length, take}
use Rattle.std.specs.Prelude.{drop, Option, Some, None, if◌then◌else◌}
use Rattle.std.specs.List.{list_any}
use Rattle.am_text.specs.Ascii.{newline, quote}
use Rattle.rule_syntax.specs.Words.{is_blank_line, is_comment}
use Rattle.rule_syntax.specs.Parsing.{value_text}
use Rattle.rule_syntax.specs.declared.cutting.Scan.{Scan}

-- ---- lines

-- a newline
abbrev pub is_newline : ℕ → Bool
is_newline b = b == newline

-- whether a newline stands in the bytes
abbrev pub has_newline : List ℕ → Bool
has_newline bytes = list_any is_newline bytes

-- a byte at the front of the first of these lines, if there is one
abbrev pub onto_line : ℕ → List (List ℕ) → List (List ℕ)
onto_line b [] = []
onto_line b (line ∷ lines) = (b ∷ line) ∷ lines

-- the lines that end by a newline; what follows the last newline is no line yet
abbrev pub ended_lines : List ℕ → List (List ℕ)
ended_lines [] = []
ended_lines (b ∷ bytes) = if is_newline b then [] ∷ ended_lines bytes else onto_line b (ended_lines bytes)

-- ---- rules

-- whether a quote is open behind a text, by whether one is open before it
abbrev pub is_open_behind : Bool → List ℕ → Bool
is_open_behind is_open [] = is_open
is_open_behind is_open (b ∷ bytes) = is_open_behind (if b == quote then not is_open else is_open) bytes

-- whether a quote is open behind a text
abbrev pub is_open : List ℕ → Bool
is_open text = is_open_behind false text

-- the value that a line defines is whole: no quote is open behind it
abbrev pub is_whole : Option (List ℕ) → Bool
is_whole None = false
is_whole (Some value) = not (is_open value)

-- whether a line defines a variable, with a whole value
abbrev pub is_definition : List ℕ → Bool
is_definition line = is_whole (value_text line)

-- A line that is neither blank, nor a comment, nor a definition is a rule of its set, or should be one.
abbrev pub is_rule : List ℕ → Bool
is_rule line = not (is_blank_line line) && not (is_comment line) && not (is_definition line)

-- ---- sets

-- Where the last whole set ends in the lines so far, how many bytes those have, and whether a set is begun behind it,
-- in front of all lines.
abbrev pub front : Scan
front = record { at = 0; end = 0; begun = false }

-- the place behind a line and its newline
abbrev pub behind : ℕ → List ℕ → ℕ
behind at line = at + length line + 1

-- a blank line ends the set, if one is begun
abbrev pub after_blank : Scan → ℕ → Scan
after_blank s at = record { at = at; end = if s.begun then at else s.end; begun = false }

-- one line further
abbrev pub after_line : Scan → List ℕ → Scan
after_line s line =
    if is_blank_line line then after_blank s (behind s.at line)
    else record s { at = behind s.at line; begun = s.begun || is_rule line }

-- all these lines further
abbrev pub after_lines : Scan → List (List ℕ) → Scan
after_lines s [] = s
after_lines s (line ∷ lines) = after_lines (after_line s line) lines

-- how many bytes whole sets take: all up to and with the last blank line that ends a set
abbrev pub sets_end : List ℕ → ℕ
sets_end text = (after_lines front (ended_lines text)).end

-- the whole sets, and what is left behind them
abbrev pub whole_sets : List ℕ → List ℕ
whole_sets text = take (sets_end text) text

-- what is left behind the whole sets
abbrev pub begun_set : List ℕ → List ℕ
begun_set text = drop (sets_end text) text

-- ---- texts that grow

-- A front of the text was scanned so far: from there on the lines give what all lines give, whatever follows the text.
pub record IsScanOf (s : Scan) (text : List ℕ) : Type 0 where
  pub inside : s.at ≤ length text
  pub ends : s.end ≤ s.at
  pub same : (more : List ℕ) → after_lines s (ended_lines (drop s.at text ++ more)) ≡ after_lines front
      (ended_lines (text ++ more))
