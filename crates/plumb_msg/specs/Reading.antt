-- Reading a message from left to right.
use Rattle.std.specs.Prelude.{ℕ, ◌-◌, Bool, ◌||◌, ◌==◌, List, length, take, drop, Option, Some, None, Result, Ok, Err}
use Rattle.std.specs.Prelude.{nat_lt, nat_le, is_some, if◌then◌else◌}
use Rattle.std.specs.Str.{is_utf8}
use Rattle.am_text.specs.Number.{number_of}
use Rattle.plumb_msg.specs.Limits.{max_data}
use Rattle.plumb_msg.specs.Texts.{is_text_front}
use Rattle.plumb_msg.specs.Attributes.{attrs_of, is_attrs_front}
use Rattle.plumb_msg.specs.Fields.{◌>>=◌, line_at}
use Rattle.plumb_msg.specs.declared.message.Attr.{Attr}
use Rattle.plumb_msg.specs.declared.message.PlumbMsg.{PlumbMsg}
use Rattle.plumb_msg.specs.declared.message.PlumbRead.{PlumbRead}
use Rattle.plumb_msg.specs.declared.message.PlumbRead.TheVariants as read
use Rattle.plumb_msg.specs.declared.unread.Unread.{Unread}
use Rattle.plumb_msg.specs.declared.unread.Unread.TheVariants.{More, Bad}

-- the text of a whole line, if it is UTF-8
abbrev pub text_of : List ℕ → Option (List ℕ)
text_of line = if is_utf8 line then Some line else None

-- a text in a line of its own
abbrev pub text_at : List ℕ → Result (List ℕ × List ℕ) Unread
text_at bs = line_at text_of is_text_front bs

-- the attributes, in a line of their own
abbrev pub attrs_at : List ℕ → Result (List Attr × List ℕ) Unread
attrs_at bs = line_at attrs_of is_attrs_front bs

-- a number of bytes of data
abbrev pub small : Option ℕ → Option ℕ
small None = None
small (Some n) = if nat_le n max_data then Some n else None

-- the number of bytes of data that a line tells, if it is one
abbrev pub count_of : List ℕ → Option ℕ
count_of line = small (number_of line)

-- whether the bytes begin such a number
abbrev pub is_count_front : List ℕ → Bool
is_count_front bs = length bs == 0 || is_some (count_of bs)

-- the number of bytes of data, in a line of its own
abbrev pub count_at : List ℕ → Result (ℕ × List ℕ) Unread
count_at bs = line_at count_of is_count_front bs

-- n bytes, and those after them
abbrev pub bytes_at : ℕ → List ℕ → Result (List ℕ × List ℕ) Unread
bytes_at n bs = if nat_lt (length bs) n then Err More else Ok (take n bs, drop n bs)

-- the data, after the line of their number
abbrev pub body_at : List ℕ → Result (List ℕ × List ℕ) Unread
body_at bs = do
  count ← count_at bs
  bytes_at count.0 count.1

-- a message and the bytes after it, or why there is none
unfoldable pub msg_at : List ℕ → Result (PlumbMsg × List ℕ) Unread
msg_at bs = do
  src ← text_at bs
  dst ← text_at src.1
  wdir ← text_at dst.1
  sort ← text_at wdir.1
  attrs ← attrs_at sort.1
  body ← body_at attrs.1
  Ok (record { src = src.0; dst = dst.0; wdir = wdir.0; sort = sort.0; attrs = attrs.0; body = body.0 }, body.1)

-- the answer of reading, told by the bytes after the message
abbrev pub read_told : List ℕ → Result (PlumbMsg × List ℕ) Unread → PlumbRead
read_told bs (Ok found) = read.Whole found.0 (length bs - length found.1)
read_told bs (Err More) = read.More
read_told bs (Err Bad) = read.Bad

-- what stands at the front of the bytes
abbrev pub read_of : List ℕ → PlumbRead
read_of bs = read_told bs (msg_at bs)
