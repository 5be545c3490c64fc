-- The lines of `do`.
use Rattle.std.specs.Prelude.{ℕ, ◌+◌, List, [], ◌∷◌, Option, Some, None, Result, Ok, Err, if◌then◌else◌, codes}
use Rattle.am_text.specs.Number.{number_of}
use Rattle.am_do.specs.declared.line.DoLine.{DoLine}
use Rattle.am_do.specs.declared.line.DoLine.TheVariants as line
use Rattle.am_text.specs.Front.{after_front}
use Rattle.am_text.specs.Lines.{first_field, after_field}
use Rattle.am_do.specs.Fields.{fid_at, count_at, mode_at, bytes_at, names_at}

-- `open K NAME MODE`
abbrev pub open_from : Option ℕ → Option (List (List ℕ)) → Option ℕ → Option DoLine
open_from None names mode = None
open_from (Some fid) None mode = None
open_from (Some fid) (Some names) None = None
open_from (Some fid) (Some names) (Some mode) = Some (line.Open fid names mode)

-- a line `open` by what follows its word
abbrev pub open_at : List ℕ → Option DoLine
open_at bytes = open_from (fid_at (first_field bytes)) (names_at (first_field (after_field bytes)))
    (mode_at (after_field (after_field bytes)))

-- `read K OFFSET COUNT`
abbrev pub read_from : Option ℕ → Option ℕ → Option ℕ → Option DoLine
read_from None offset count = None
read_from (Some fid) None count = None
read_from (Some fid) (Some offset) None = None
read_from (Some fid) (Some offset) (Some count) = Some (line.Read fid offset count)

-- a line `read` by what follows its word
abbrev pub read_at : List ℕ → Option DoLine
read_at bytes = read_from (fid_at (first_field bytes)) (number_of (first_field (after_field bytes)))
    (count_at (after_field (after_field bytes)))

-- `write K OFFSET :TEXT`
abbrev pub write_from : Option ℕ → Option ℕ → Option (List ℕ) → Option DoLine
write_from None offset text = None
write_from (Some fid) None text = None
write_from (Some fid) (Some offset) None = None
write_from (Some fid) (Some offset) (Some text) = Some (line.Write fid offset text)

-- a line `write` by what follows its word
abbrev pub write_at : List ℕ → Option DoLine
write_at bytes = write_from (fid_at (first_field bytes)) (number_of (first_field (after_field bytes)))
    (bytes_at (after_field (after_field bytes)))

-- `close K`
abbrev pub close_from : Option ℕ → Option DoLine
close_from None = None
close_from (Some fid) = Some (line.Close fid)

-- a line `close` by what follows its word
abbrev pub close_at : List ℕ → Option DoLine
close_at bytes = close_from (fid_at bytes)

-- what the first front that the bytes begin with gives of the bytes after it
abbrev pub with_front : Option (List ℕ) → (List ℕ → Option DoLine) → Option DoLine → Option DoLine
with_front None read others = others
with_front (Some rest) read others = read rest

-- what the first front that the bytes begin with gives of the bytes after it
abbrev pub read_by : List (List ℕ × (List ℕ → Option DoLine)) → List ℕ → Option DoLine
read_by [] bytes = None
read_by (r ∷ rs) bytes = with_front (after_front r.0 bytes) r.1 (read_by rs bytes)

-- what a line without its newline asks for, if it is in the grammar
unfoldable pub line_of : List ℕ → Option DoLine
line_of bytes = read_by ((codes "open ", open_at) ∷ (codes "read ", read_at) ∷ (codes "write ", write_at)
    ∷ (codes "close ", close_at) ∷ []) bytes

-- ---- all lines

-- the lines, or the number, from k on, of the first that isn't in the grammar
abbrev pub onto_line : DoLine → Result (List DoLine) ℕ → Result (List DoLine) ℕ
onto_line line (Ok lines) = Ok (line ∷ lines)
onto_line line (Err k) = Err k

-- a line and those after it, or the number of the first that isn't in the grammar
abbrev pub line_then : ℕ → Option DoLine → Result (List DoLine) ℕ → Result (List DoLine) ℕ
line_then k None others = Err k
line_then k (Some line) others = onto_line line others

-- the lines, of which the first has this number
unfoldable pub lines_from : ℕ → List (List ℕ) → Result (List DoLine) ℕ
lines_from k [] = Ok []
lines_from k (l ∷ ls) = line_then k (line_of l) (lines_from (k + 1) ls)
