-- Numbers in columns.
use Rattle.std.specs.Prelude.{ℕ, ◌-◌, List, [], ◌∷◌, ◌++◌, length, replicate}
use Rattle.std.specs.Fmt.{decimal}
use Rattle.am_text.specs.Ascii.{space}

-- the decimal at the right end of 11 places, longer where it needs more, and a blank
unfoldable pub column11 : ℕ → List ℕ
column11 n = replicate (11 - length (decimal n)) space ++ decimal n ++ space ∷ []
