-- What the first rune of a command says.
use Rattle.std.specs.Prelude.{ℕ, ◌<◌, ◌==◌, List, [], ◌∷◌, length, Bool, true, false, Option, Some, None, if◌then◌else◌}
use Rattle.addr_syntax.specs.Marks.{begins_piece}
use Rattle.edit_files.specs.declared.letter.Letter.{Letter}
use Rattle.edit_files.specs.declared.letter.Letter.TheVariants.{Each, Other, Open, Drop, Enter, ReadIn, WriteOut}
use Rattle.edit_files.specs.declared.letter.Letter.TheVariants.{Address, Sam}

-- `B`
abbrev pub letter_B : ℕ
letter_B = 66

-- `D`
abbrev pub letter_D : ℕ
letter_D = 68

-- `X`
abbrev pub letter_X : ℕ
letter_X = 88

-- `Y`
abbrev pub letter_Y : ℕ
letter_Y = 89

-- `e`
abbrev pub letter_e : ℕ
letter_e = 101

-- `r`
abbrev pub letter_r : ℕ
letter_r = 114

-- `w`
abbrev pub letter_w : ℕ
letter_w = 119

-- the letter of windows with a match, and of those without
abbrev pub windows_letter : Bool → Letter
windows_letter true = Each
windows_letter false = Other

-- the letter that reads a file, and that which writes one
abbrev pub file_letter : Bool → Letter
file_letter true = ReadIn
file_letter false = WriteOut

-- whether `r` stands behind an address, or `w`, or neither
abbrev pub reads_in : Letter → Option Bool
reads_in ReadIn = Some true
reads_in WriteOut = Some false
reads_in Each = None
reads_in Other = None
reads_in Open = None
reads_in Drop = None
reads_in Enter = None
reads_in Address = None
reads_in Sam = None

-- what is no letter of this table may begin an address
abbrev pub other_letter : ℕ → Letter
other_letter c = if begins_piece (Some c) then Address else Sam

-- what the rune says at the beginning of a command
unfoldable pub letter_of : ℕ → Letter
letter_of c =
    if c == letter_X then Each
    else (if c == letter_Y then Other
    else (if c == letter_B then Open
    else (if c == letter_D then Drop
    else (if c == letter_e then Enter
    else (if c == letter_r then ReadIn
    else (if c == letter_w then WriteOut
    else other_letter c))))))

-- what the first rune of a text says; the empty text is left to sam
abbrev pub letter_at : List ℕ → Letter
letter_at [] = Sam
letter_at (c ∷ cs) = letter_of c

-- a letter that isn't left to sam stands in the text
abbrev pub StandsAt : List ℕ → ℕ → Letter → Type 0
StandsAt text at Each = at < length text
StandsAt text at Other = at < length text
StandsAt text at Open = at < length text
StandsAt text at Drop = at < length text
StandsAt text at Enter = at < length text
StandsAt text at ReadIn = at < length text
StandsAt text at WriteOut = at < length text
StandsAt text at Address = at < length text
StandsAt text at Sam = Unit {0}
