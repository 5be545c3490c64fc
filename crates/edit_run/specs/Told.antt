-- What `=` and `=#` print.
use Rattle.std.specs.Prelude.{◌==◌, ◌+◌, ◌-◌, ℕ, List, [], ◌∷◌, ◌++◌, take, max, if◌then◌else◌}
use Rattle.std.specs.List.{count_by}
use Rattle.std.specs.Fmt.{decimal}
use Rattle.am_text.specs.Ascii.{newline, hash, comma, colon}
use Rattle.am_text.specs.declared.range.Range.{Range}

-- the number of the line that has a place, counted from 1
unfoldable pub line_of : List ℕ → ℕ → ℕ
line_of t p = count_by (λ c. c == newline) (take p t) + 1

-- one number, or two where they differ, each behind a mark
abbrev pub one_or_two : List ℕ → ℕ → ℕ → List ℕ
one_or_two mark a b = if a == b then mark ++ decimal a else mark ++ decimal a ++ comma ∷ mark ++ decimal b

-- the lines of the first and of the last rune of a range; of a null range the line that has its place
abbrev pub lines_text : List ℕ → Range → List ℕ
lines_text t r = one_or_two [] (line_of t r.q0) (line_of t (max r.q0 (r.q1 - 1)))

-- the places of a range
abbrev pub places_text : Range → List ℕ
places_text r = one_or_two (hash ∷ []) r.q0 r.q1

-- NAME:WHERE and a newline
abbrev pub line_with_name : List ℕ → List ℕ → List ℕ
line_with_name name where_it_is = name ++ colon ∷ where_it_is ++ newline ∷ []
