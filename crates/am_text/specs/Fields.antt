-- Parts of lines.
use Rattle.std.specs.Prelude.{ℕ, List, [], ◌∷◌, ◌++◌}
use Rattle.std.specs.List.{flat_map}
use Rattle.std.specs.Fmt.{decimal}
use Rattle.am_text.specs.Ascii.{newline, colon}
use Rattle.am_text.specs.Lines.{escaped}

-- a number between two texts
unfoldable pub around : List ℕ → ℕ → List ℕ → List ℕ
around before n after = before ++ decimal n ++ after

-- a text in one line after a colon, and the line's end
unfoldable pub text_end : List ℕ → List ℕ
text_end text = colon ∷ flat_map escaped text ++ newline ∷ []
