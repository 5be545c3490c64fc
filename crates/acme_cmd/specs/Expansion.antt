-- The text that a click stands for.
use Rattle.std.specs.Prelude.{ℕ, ◌+◌, ◌-◌, ◌<◌, ◌≤◌, Bool, ◌&&◌, ◌||◌, ◌==◌, List, take, drop, nat_lt, nat_le, not}
use Rattle.std.specs.Prelude.{Option, Some, None, if◌then◌else◌}
use Rattle.std.specs.Char.{is_ascii_alphanumeric}
use Rattle.std.specs.List.{prefix_len, suffix_len}
use Rattle.am_text.specs.Ascii.{hash, dollar, plus, minus, dot, slash, colon, underscore}
use Rattle.am_text.specs.declared.range.Range.{Range}
use Rattle.acme_cmd.specs.declared.expansion.Click.{Click}
use Rattle.acme_cmd.specs.declared.expansion.Click.TheVariants as click
use Rattle.acme_cmd.specs.Blanks.{is_blank}

-- one of `_` `.` `-` `+` `/` `:` `#` `$`
abbrev pub is_sign : ℕ → Bool
is_sign c =
    c == underscore || c == dot || c == minus || c == plus || c == slash || c == colon || c == hash || c == dollar

-- the last rune of ASCII
abbrev pub last_ascii : ℕ
last_ascii = 127

-- a letter or a digit, a sign, or a rune past ASCII
abbrev pub is_look : ℕ → Bool
is_look c = nat_lt last_ascii c || is_ascii_alphanumeric c || is_sign c

-- a character that a click of this kind is expanded over
unfoldable pub is_over : Click → ℕ → Bool
is_over click.Exec c = not (is_blank c)
is_over click.Look c = is_look c

-- the longest run of characters round a place
abbrev pub run : (ℕ → Bool) → List ℕ → ℕ → Range
run over text at = record { q0 = at - suffix_len over (take at text); q1 = at + prefix_len over (drop at text) }

-- a range, if it isn't null
abbrev pub not_null : Range → Option Range
not_null r = if nat_lt r.q0 r.q1 then Some r else None

-- a range that isn't null and lies in a text of this length
abbrev pub IsFound : ℕ → Range → Type 0
IsFound n r = (r.q0 < r.q1) × (r.q1 ≤ n)

-- dot, if it isn't null and the place is in it or at one of its ends
abbrev pub holding : Option Range → ℕ → Option Range
holding None at = None
holding (Some r) at = if nat_lt r.q0 r.q1 && nat_le r.q0 at && nat_le at r.q1 then Some r else None

-- the first range, or the other where there is none
abbrev pub or_else : Option Range → Option Range → Option Range
or_else (Some r) other = Some r
or_else None other = other

-- the range of a click at a place
abbrev pub expansion : List ℕ → Option Range → ℕ → Click → Option Range
expansion text dot at how = or_else (holding dot at) (not_null (run (is_over how) text at))
