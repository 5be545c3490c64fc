-- What the first rune of a piece says.
use Rattle.std.specs.Prelude.{ℕ, ◌==◌, Bool, true, false, List, Option, Some, None, if◌then◌else◌}
use Rattle.am_text.specs.Ascii.{newline, space, less, equals, greater, left_brace, bar, right_brace}
use Rattle.addr_syntax.specs.Marks.{mark_of, is_mark}
use Rattle.addr_syntax.specs.Tree as address
use Rattle.edit_parts.specs.Tree as tree
use Rattle.edit_parts.specs.declared.kind.Loop.{Loop}
use Rattle.edit_parts.specs.declared.kind.Loop.TheVariants.{ForEach, ForBetween, Where, WhereNot}
use Rattle.edit_parts.specs.declared.kind.Place.{Place}
use Rattle.edit_parts.specs.declared.kind.Place.TheVariants.{Behind, Instead, Before}
use Rattle.edit_parts.specs.declared.kind.Way.{Way}
use Rattle.edit_parts.specs.declared.kind.Way.TheVariants.{Move, Copy}
use Rattle.edit_parts.specs.declared.kind.Request.{Request}
use Rattle.edit_parts.specs.declared.kind.Request.TheVariants.{Through, FromIt, ToIt}
use Rattle.edit_parts.specs.declared.kind.Letter.TheVariants.{Puts, Delete, Substitute, Sends, Print, Equals, Asks}
use Rattle.edit_parts.specs.declared.kind.Kind.{Kind}
use Rattle.edit_parts.specs.declared.kind.Kind.TheVariants.{Blank, EndsLine, Address, Loops, Opens, Closes, Acts, Other}

-- `a`
abbrev pub letter_a : ℕ
letter_a = 97

-- `c`
abbrev pub letter_c : ℕ
letter_c = 99

-- `d`
abbrev pub letter_d : ℕ
letter_d = 100

-- `g`
abbrev pub letter_g : ℕ
letter_g = 103

-- `i`
abbrev pub letter_i : ℕ
letter_i = 105

-- `m`
abbrev pub letter_m : ℕ
letter_m = 109

-- `p`
abbrev pub letter_p : ℕ
letter_p = 112

-- `s`
abbrev pub letter_s : ℕ
letter_s = 115

-- `t`
abbrev pub letter_t : ℕ
letter_t = 116

-- `v`
abbrev pub letter_v : ℕ
letter_v = 118

-- `x`
abbrev pub letter_x : ℕ
letter_x = 120

-- `y`
abbrev pub letter_y : ℕ
letter_y = 121

-- what isn't a letter or sign of a command may begin an address
abbrev pub other_kind : ℕ → Kind
other_kind c = if is_mark (mark_of c) then Address else Other

-- which kind of piece begins with the rune
unfoldable pub kind_of : ℕ → Kind
kind_of c =
    if c == space then Blank
    else (if c == newline then EndsLine
    else (if c == left_brace then Opens
    else (if c == right_brace then Closes
    else (if c == letter_x then Loops ForEach
    else (if c == letter_y then Loops ForBetween
    else (if c == letter_g then Loops Where
    else (if c == letter_v then Loops WhereNot
    else (if c == letter_a then Acts (Puts Behind)
    else (if c == letter_c then Acts (Puts Instead)
    else (if c == letter_i then Acts (Puts Before)
    else (if c == letter_d then Acts Delete
    else (if c == letter_s then Acts Substitute
    else (if c == letter_m then Acts (Sends Move)
    else (if c == letter_t then Acts (Sends Copy)
    else (if c == letter_p then Acts Print
    else (if c == equals then Acts Equals
    else (if c == bar then Acts (Asks Through)
    else (if c == less then Acts (Asks FromIt)
    else (if c == greater then Acts (Asks ToIt)
    else other_kind c)))))))))))))))))))

-- the loop of a letter
abbrev pub loop_of : Loop → tree.Loop
loop_of ForEach = tree.ForEach
loop_of ForBetween = tree.ForBetween
loop_of Where = tree.Where
loop_of WhereNot = tree.WhereNot

-- `a`, `c` or `i` with this text
abbrev pub puts : Place → List ℕ → tree.Action
puts Behind t = tree.Append t
puts Instead t = tree.Change t
puts Before t = tree.Insert t

-- `m` or `t` with this address
abbrev pub sends : Way → address.Tree → tree.Action
sends Move a = tree.Move a
sends Copy a = tree.Copy a

-- the request of a sign
abbrev pub request_of : Request → tree.Request
request_of Through = tree.Through
request_of FromIt = tree.FromIt
request_of ToIt = tree.ToIt

-- the rune that comes next ends the line, or the text does
abbrev pub ends_line : Option ℕ → Bool
ends_line None = true
ends_line (Some c) = c == newline

-- this rune comes next
abbrev pub is_next : ℕ → Option ℕ → Bool
is_next c None = false
is_next c (Some d) = d == c
