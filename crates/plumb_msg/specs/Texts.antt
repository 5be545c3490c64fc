-- Texts in one line, and bytes that begin one.
use Rattle.std.specs.Prelude.{ℕ, Bool, false, ◌||◌, ◌==◌, List, drop, if◌then◌else◌}
use Rattle.std.specs.List.{list_any}
use Rattle.std.specs.Str.{is_utf8}
use Rattle.std.specs.Str.Lossy.{utf8_valid_len}
use Rattle.am_text.specs.Ascii.{newline}
use Rattle.am_text.specs.Pieces.{is_begun}

-- whether there is a newline
abbrev pub has_newline : List ℕ → Bool
has_newline bs = list_any (λ b. b == newline) bs

-- a text that can stand in one line
abbrev pub is_line : List ℕ → Bool
is_line bs = if has_newline bs then false else is_utf8 bs

-- a front of UTF-8: what stands after the longest front of it that is UTF-8 begins a character
abbrev pub is_text_front : List ℕ → Bool
is_text_front bs = is_utf8 bs || is_begun (drop (utf8_valid_len bs) bs)
