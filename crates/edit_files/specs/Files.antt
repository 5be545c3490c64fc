-- The command of Edit that a text is, as a function of the text.
use Rattle.std.specs.Prelude.{ℕ, Bool, true, false, List, [], ◌∷◌, drop, Option, Some, None}
use Rattle.std.specs.Option.{option_map}
use Rattle.re_syntax.specs.Tree as expression
use Rattle.addr_syntax.specs.Tree as address
use Rattle.addr_syntax.specs.Tree.{Missing}
use Rattle.edit_parts.specs.Tree.{Command, Print}
use Rattle.edit_parts.specs.Texts.{after_blanks}
use Rattle.sam_syntax.specs.Cuts.{Cut}
use Rattle.sam_syntax.specs.Texts.{quoted_expression, first_address}
use Rattle.sam_syntax.specs.Edits.{edit_of}
use Rattle.edit_files.specs.Names.{names_in, lone}
use Rattle.edit_files.specs.Letters.{letter_at, reads_in}
use Rattle.edit_files.specs.Command.{FilesCommand, One, Each, Other, Open, Drops, Enter, ReadIn, WriteOut}
use Rattle.edit_files.specs.declared.letter.Letter.{Letter}
use Rattle.edit_files.specs.declared.letter.Letter.TheVariants as letter

-- a command of sam
abbrev pub sam_of : List ℕ → Option FilesCommand
sam_of text = option_map One (edit_of text)

-- the command of `X` and `Y` behind their expression: `p` where none is written
abbrev pub inner_of : List ℕ → Option Command
inner_of [] = Some (Missing, Print)
inner_of (c ∷ cs) = edit_of (c ∷ cs)

-- `X`, or `Y`
abbrev pub in_windows : Bool → expression.Tree → Command → FilesCommand
in_windows true re c = Each re c
in_windows false re c = Other re c

-- `X` or `Y` by its expression and what stands behind that
abbrev pub over_windows : Bool → Cut expression.Tree → Option FilesCommand
over_windows with_match None = None
over_windows with_match (Some (re, behind)) = option_map (in_windows with_match re) (inner_of (after_blanks behind))

-- `X` or `Y` by what stands behind the letter
abbrev pub windows_of : Bool → List ℕ → Option FilesCommand
windows_of with_match behind = over_windows with_match (quoted_expression (after_blanks behind))

-- one name or none
abbrev pub name_of : List ℕ → Option (Option (List ℕ))
name_of behind = lone (names_in behind)

-- `B` by its name, which must be there
abbrev pub with_name : Option (Option (List ℕ)) → Option FilesCommand
with_name None = None
with_name (Some None) = None
with_name (Some (Some name)) = Some (Open name)

-- `r` or `w`
abbrev pub file_of : Bool → address.Tree → Option (List ℕ) → FilesCommand
file_of true addr name = ReadIn addr name
file_of false addr name = WriteOut addr name

-- `r` or `w` at an address by what stands behind the letter
abbrev pub ranged_of : Bool → address.Tree → List ℕ → Option FilesCommand
ranged_of reads_in addr behind = option_map (file_of reads_in addr) (name_of behind)

-- behind an address: `r` or `w`; any other text is a command of sam, all of it
abbrev pub at_address : address.Tree → Option Bool → List ℕ → List ℕ → Option FilesCommand
at_address addr (Some reads_in) behind whole = ranged_of reads_in addr behind
at_address addr None behind whole = sam_of whole

-- an address, what stands behind it and its blanks, and all
abbrev pub addressed : Cut address.Tree → List ℕ → Option FilesCommand
addressed None whole = None
addressed (Some (addr, behind)) whole =
    at_address addr (reads_in (letter_at (after_blanks behind))) (drop 1 (after_blanks behind)) whole

-- a text by its first letter
abbrev pub by_letter : Letter → List ℕ → Option FilesCommand
by_letter letter.Each text = windows_of true (drop 1 text)
by_letter letter.Other text = windows_of false (drop 1 text)
by_letter letter.Open text = with_name (name_of (drop 1 text))
by_letter letter.Drop text = option_map Drops (names_in (drop 1 text))
by_letter letter.Enter text = option_map Enter (name_of (drop 1 text))
by_letter letter.ReadIn text = ranged_of true Missing (drop 1 text)
by_letter letter.WriteOut text = ranged_of false Missing (drop 1 text)
by_letter letter.Address text = addressed (first_address text) text
by_letter letter.Sam text = sam_of text

-- a text that begins with no blank
abbrev pub solid_files : List ℕ → Option FilesCommand
solid_files text = by_letter (letter_at text) text

-- the command that a text is, if it is one
unfoldable pub files_of : List ℕ → Option FilesCommand
files_of text = solid_files (after_blanks text)
