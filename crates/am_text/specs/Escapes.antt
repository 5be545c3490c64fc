-- Reading a text that stands in one line.
use Rattle.std.specs.Prelude.{◌≡◌, ℕ, Bool, true, false, List, [], ◌∷◌, ◌++◌, Option, Some, None, ◌==◌, if◌then◌else◌}
use Rattle.std.specs.Char.{IsScalar}
use Rattle.std.specs.List.{AllByRecursion, flat_map}
use Rattle.std.specs.Str.{is_utf8}
use Rattle.am_text.specs.Ascii.{newline, backslash, letter_n}
use Rattle.am_text.specs.Utf8.{decode}
use Rattle.am_text.specs.Lines.{escaped}

-- This text, and then what the runes stand for, where a backslash came just before them or not. None where they end
-- after a backslash, have a newline, or a backslash before another rune than `n` and backslash.
unfoldable pub unescaped_after : List ℕ → Bool → List ℕ → Option (List ℕ)
unescaped_after text false [] = Some text
unescaped_after text true [] = None
unescaped_after text false (c ∷ cs) =
    if c == newline then None else (if c == backslash then unescaped_after text true cs else unescaped_after
    (text ++ c ∷ []) false cs)
unescaped_after text true (c ∷ cs) =
    if c == letter_n then unescaped_after (text ++ newline ∷ []) false cs
    else (if c == backslash then unescaped_after (text ++ backslash ∷ []) false cs else None)

-- the text whose escape the bytes are, if there is one
unfoldable pub unescaped : List ℕ → Option (List ℕ)
unescaped bytes = if is_utf8 bytes then unescaped_after [] false (decode bytes) else None

-- the bytes are the escape of this text, a list of Unicode scalar values
abbrev pub IsEscape : List ℕ → List ℕ → Type 0
IsEscape text bytes = AllByRecursion IsScalar text × (bytes ≡ flat_map escaped text)

-- ---- laws

-- What was escaped is read again.
abbrev pub ReadsAgain : Type 0
ReadsAgain = (text : List ℕ) → AllByRecursion IsScalar text → unescaped (flat_map escaped text) ≡ Some text

-- Nothing else is read.
abbrev pub ReadsOnly : Type 0
ReadsOnly = (bytes text : List ℕ) → unescaped bytes ≡ Some text → IsEscape text bytes
