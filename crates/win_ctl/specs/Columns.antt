-- The texts of `ctl` and `index`.
use Rattle.std.specs.Prelude.{ℕ, Bool, true, false, List, [], ◌∷◌, ◌++◌, length, codes}
use Rattle.am_text.specs.Ascii.{newline}
use Rattle.am_text.specs.Column.{column11}
use Rattle.am_text.specs.Lines.{first_line}
use Rattle.am_text.specs.Utf8.{utf8}

-- a truth value as a number
abbrev pub flag : Bool → ℕ
flag false = 0
flag true = 1

-- five columns: the number of the window, the runes in the tag and in the body, directory or not, modified or not
unfoldable pub columns : ℕ → ℕ → ℕ → Bool → Bool → List ℕ
columns id tag body dir modified =
    column11 id ++ column11 tag ++ column11 body ++ column11 (flag dir) ++ column11 (flag modified)

-- the width of the display that `ctl` tells, in pixels
abbrev pub display_width : ℕ
display_width = 800

-- the width of a tab, in pixels
abbrev pub tab_width : ℕ
tab_width = 32

-- the columns, then a width, a font and the width of a tab
unfoldable pub ctl_text : ℕ → ℕ → ℕ → Bool → Bool → List ℕ
ctl_text id tag body dir modified =
    columns id tag body dir modified ++ column11 display_width ++ codes "fixed " ++ column11 tab_width

-- the columns, the first line of the tag, a newline
unfoldable pub index_line : ℕ → List ℕ → ℕ → Bool → Bool → List ℕ
index_line id tag body dir modified = columns id (length tag) body dir modified ++ utf8 (first_line tag) ++ newline ∷ []
