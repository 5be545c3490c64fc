-- Paths of files in a line. The runes that a path's rules name stand in UTF-8 as single bytes, and those bytes are in
-- no other rune.
use Rattle.std.specs.Prelude.{ℕ, Bool, ◌&&◌, List}
use Rattle.std.specs.Str.{is_utf8}
use Rattle.acme_cmd.specs.Paths.{is_path}

-- bytes that spell the path of a file or a directory below `/`
abbrev pub is_path_text : List ℕ → Bool
is_path_text bytes = is_utf8 bytes && is_path bytes
