-- What the leaves of a tree match.
use Rattle.std.specs.Prelude.{◌==◌, ◌&&◌, ◌||◌, ◌-◌, ℕ, Bool, false, not, List, length, slice_index, nat_lt}
use Rattle.am_text.specs.Ascii.{newline}
use Rattle.re_syntax.specs.Match.{is_in_class}
use Rattle.re_syntax.specs.Tree.{Tree, Letter, AnyLetter, OneOf, LineStart, LineEnd}
use Rattle.re_spans.specs.Turns.{lower}
use Rattle.re_spans.specs.declared.way.Way.{Way}
use Rattle.re_spans.specs.declared.leaf.Here.{Here}
use Rattle.re_spans.specs.declared.leaf.Read.{Read}

-- the one rune is a match
abbrev pub takes : Tree → ℕ → Bool
takes (Letter c) d = d == c
takes AnyLetter d = not (d == newline)
takes (OneOf negated spans) d = is_in_class negated spans d
takes _ d = false

-- the null text here is a match
abbrev pub is_null : Tree → Here → Bool
is_null LineStart here = here.starts
is_null LineEnd here = here.ends
is_null _ here = false

-- what the null text at a place is
abbrev pub here_at : List ℕ → ℕ → Here
here_at t i = record {
  starts = nat_lt i (length t) && ((i == 0) || (slice_index t (i - 1) == newline));
  ends = (i == length t) || (slice_index t i == newline);
}

-- the step from a place to the next one
abbrev pub read_at : Way → List ℕ → ℕ → ℕ → Read
read_at way t i next = record { rune = slice_index t (lower way i next); here = here_at t next }
