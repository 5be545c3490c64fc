-- Directories of names, and the names of errors windows.
use Rattle.std.specs.Prelude.{ℕ, ◌+◌, ◌==◌, List, [], ◌∷◌, ◌++◌, codes, take, if◌then◌else◌}
use Rattle.am_text.specs.Ascii.{slash}

-- one rune more in front: it counts where it is `/` or stands before one
abbrev pub widened : ℕ → ℕ → ℕ
widened c width = if width == 0 then (if c == slash then 1 else 0) else width + 1

-- how many runes the name has up to and with its last `/`; 0 where it has none
abbrev pub dir_width : List ℕ → ℕ
dir_width [] = 0
dir_width (c ∷ cs) = widened c (dir_width cs)

-- the name up to and with its last `/`, or `/` where it has none
unfoldable pub directory : List ℕ → List ℕ
directory name = if dir_width name == 0 then slash ∷ [] else take (dir_width name) name

-- the name of the errors window of a directory (acme(1))
unfoldable pub errors_name : List ℕ → List ℕ
errors_name dir = dir ++ codes "+Errors"
