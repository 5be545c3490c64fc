-- Paths of files.
use Rattle.std.specs.Prelude.{ℕ, ◌==◌, ◌&&◌, nat_lt, not, Bool, false, List, [], ◌∷◌, length}
use Rattle.std.specs.List.{list_all, slice_split}
use Rattle.am_text.specs.Ascii.{space, backslash}
use Rattle.acme_cmd.specs.Names.{is_slash, is_here, is_up}

-- neither a blank nor a control character, nor a backslash
abbrev pub is_path_rune : ℕ → Bool
is_path_rune c = nat_lt space c && not (c == backslash)

-- a part of a path: not empty, not `.` and not `..`
abbrev pub is_part : List ℕ → Bool
is_part part = not (length part == 0) && not (is_here part) && not (is_up part) && list_all is_path_rune part

-- a path begins with `/`, and between slashes it has parts
abbrev pub is_path : List ℕ → Bool
is_path [] = false
is_path (c ∷ cs) = is_slash c && list_all is_part (slice_split is_slash cs)
