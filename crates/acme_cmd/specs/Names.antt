-- Names of files made whole with a directory.
use Rattle.std.specs.Prelude.{ℕ, ◌-◌, Bool, false, ◌&&◌, ◌==◌, List, [], ◌∷◌, ◌++◌, length, take, slice_index, fold}
use Rattle.std.specs.Prelude.{if◌then◌else◌}
use Rattle.std.specs.List.{slice_split, join_with_byte}
use Rattle.am_text.specs.Ascii.{dot, slash}

-- `/`
abbrev pub is_slash : ℕ → Bool
is_slash c = c == slash

-- whether a name begins with `/`
abbrev pub begins_in_slash : List ℕ → Bool
begins_in_slash [] = false
begins_in_slash (c ∷ cs) = is_slash c

-- whether a directory ends with `/`
abbrev pub ends_in_slash : List ℕ → Bool
ends_in_slash cs = is_slash (slice_index cs (length cs - 1))

-- a directory, with a `/` at its end
abbrev pub with_slash : List ℕ → List ℕ
with_slash dir = if ends_in_slash dir then dir else dir ++ slash ∷ []

-- the name seen from the directory
abbrev pub joined : List ℕ → List ℕ → List ℕ
joined dir name = if begins_in_slash name then name else with_slash dir ++ name

-- the part `.`
abbrev pub is_here : List ℕ → Bool
is_here [] = false
is_here (c ∷ []) = c == dot
is_here (c ∷ d ∷ cs) = false

-- the part `..`
abbrev pub is_up : List ℕ → Bool
is_up [] = false
is_up (c ∷ []) = false
is_up (c ∷ d ∷ []) = c == dot && d == dot
is_up (c ∷ d ∷ e ∷ cs) = false

-- the parts without the last one
abbrev pub but_last : List (List ℕ) → List (List ℕ)
but_last parts = take (length parts - 1) parts

-- the parts that are left, one part more: `.` goes, `..` takes the part before it
unfoldable pub after_part : List (List ℕ) → List ℕ → List (List ℕ)
after_part left part = if is_here part then left else (if is_up part then but_last left else left ++ part ∷ [])

-- the parts that are left of these
abbrev pub left_of : List (List ℕ) → List (List ℕ)
left_of parts = fold after_part [] parts

-- a path without a `/` in front: its parts stand between slashes
abbrev pub path : List ℕ → List ℕ
path cs = join_with_byte slash (left_of (slice_split is_slash cs))

-- a name without `.` and `..` in it
abbrev pub resolved : List ℕ → List ℕ
resolved [] = path []
resolved (c ∷ cs) = if is_slash c then slash ∷ path cs else path (c ∷ cs)

-- the name made whole with the directory
abbrev pub whole_name : List ℕ → List ℕ → List ℕ
whole_name dir name = resolved (joined dir name)
