-- What holds of all line starts.
use Rattle.std.specs.Prelude.{◌≡◌, ◌<◌, ◌==◌, ◌&&◌, ◌||◌, ◌-◌, ℕ, Bool, List, length, slice_index, nat_le}
use Rattle.std.specs.List.{list_any, AllPairs}
use Rattle.am_text.specs.Ascii.{newline}
use Rattle.sam_address.specs.Lines.{line_starts}

-- 0, or a place right after a newline
abbrev pub is_line_start : List ℕ → ℕ → Bool
is_line_start t p = (p == 0) || (nat_le p (length t) && (slice_index t (p - 1) == newline))

-- the line starts are just those places
abbrev pub LineStartsAreThose : Type 0
LineStartsAreThose = (t : List ℕ) (p : ℕ) → list_any (λ s. s == p) (line_starts t) ≡ is_line_start t p

-- each line start stands before all later ones of the list
abbrev pub LineStartsRise : Type 0
LineStartsRise = (t : List ℕ) → AllPairs (λ s u. s < u) (line_starts t)
