-- The lines of a text, by the places at which they begin.
use Rattle.std.specs.Prelude.{◌==◌, ◌+◌, ◌-◌, ℕ, List, [], ◌∷◌, Option, Some, None, length, reverse, filter, nat_le}
use Rattle.std.specs.Prelude.{unwrap_or, if◌then◌else◌}
use Rattle.am_text.specs.Ascii.{newline}
use Rattle.am_text.specs.declared.range.Range.{Range}

-- the places after the newlines of a list of runes, the first of which is at a place
abbrev pub after_newlines : ℕ → List ℕ → List ℕ
after_newlines at [] = []
after_newlines at (c ∷ cs) = if c == newline then (at + 1) ∷ after_newlines (at + 1) cs else after_newlines (at + 1) cs

-- 0 and each place after a newline
abbrev pub line_starts : List ℕ → List ℕ
line_starts t = 0 ∷ after_newlines 0 t

-- the line starts that aren't below a place
unfoldable pub starts_from : List ℕ → ℕ → List ℕ
starts_from t p = filter (λ s. nat_le p s) (line_starts t)

-- those that aren't above a place, the last of them first
unfoldable pub starts_back : List ℕ → ℕ → List ℕ
starts_back t p = reverse (filter (λ s. nat_le s p) (line_starts t))

-- the n-th of a list, counted from 1
abbrev pub nth : List ℕ → ℕ → Option ℕ
nth [] n = None
nth (s ∷ ss) n = if n == 1 then Some s else nth ss (n - 1)

-- the line that begins at a place, with its newline: to the next line start, or to the end of the text
abbrev pub line_at : List ℕ → ℕ → Range
line_at t s = record { q0 = s; q1 = unwrap_or (nth (starts_from t (s + 1)) 1) (length t) }
