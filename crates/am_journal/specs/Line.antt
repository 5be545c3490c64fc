-- Lines of a transcript: the one spelling of an event, and reading it.
use Rattle.std.specs.Prelude.{ℕ, List, [], ◌∷◌, ◌++◌, length, Option, Some, None, Result, Ok, Err, nat_lt, ◌^◌, ◌==◌}
use Rattle.std.specs.Prelude.{if◌then◌else◌, codes}
use Rattle.std.specs.List.{flat_map}
use Rattle.std.specs.Str.{bytes_eq}
use Rattle.std.specs.Fmt.{decimal}
use Rattle.am_text.specs.Ascii.{space, colon}
use Rattle.am_text.specs.Front.{after_front}
use Rattle.am_text.specs.Number.{number_of}
use Rattle.am_text.specs.Lines.{escaped, first_field, after_field}
use Rattle.am_text.specs.Escapes.{unescaped}
use Rattle.am_text.specs.declared.range.Range.{Range}
use Rattle.ninep_types.specs.declared.fault.WireFault.{WireFault}
use Rattle.ninep_types.specs.declared.message.TMsg.{TMsg}
use Rattle.ninep_types.specs.Limits.{max_msize}
use Rattle.ninep_types.specs.Spelling.{spelling_t}
use Rattle.ninep_types.specs.Reading.{t_of}
use Rattle.am_journal.specs.declared.event.Event.{Event}
use Rattle.am_journal.specs.declared.event.Event.TheVariants as event
use Rattle.am_journal.specs.declared.event.Side.{Side}
use Rattle.am_journal.specs.declared.event.Side.TheVariants as side
use Rattle.am_journal.specs.declared.event.Spot.{Spot}
use Rattle.am_journal.specs.Hexadecimal.{hex_of, bytes_of_hex}
use Rattle.am_journal.specs.Limits.{connection_count}
use Rattle.am_text.specs.Fields.{around}
use Rattle.am_journal.specs.Paths.{is_path_text}
use Rattle.am_journal.specs.declared.ending.Ending.{Ending}
use Rattle.am_journal.specs.Causes.{cause, ending_of}

-- ---- spelling

-- `dial C`
unfoldable pub dial_line : ℕ → List ℕ
dial_line c = codes "dial " ++ decimal c

-- `msg C HEX`
unfoldable pub msg_line : ℕ → List ℕ → List ℕ
msg_line c message = around (codes "msg ") c (space ∷ []) ++ hex_of message

-- `hang C CAUSE`
unfoldable pub hang_line : ℕ → Ending → List ℕ
hang_line c why = around (codes "hang ") c (space ∷ []) ++ cause why

-- `took C`
unfoldable pub took_line : ℕ → List ℕ
took_line c = codes "took " ++ decimal c

-- `new`
unfoldable pub new_line : List ℕ
new_line = codes "new"

-- the word of a window's text
abbrev pub side_word : Side → List ℕ
side_word side.Tag = codes "tag"
side_word side.Body = codes "body"

-- `key W SIDE :TEXT`
unfoldable pub key_line : ℕ → Side → List ℕ → List ℕ
key_line w on text = around (codes "key ") w (space ∷ []) ++ (side_word on ++ space ∷ colon ∷ flat_map escaped text)

-- `sel W Q0 Q1`
unfoldable pub sel_line : ℕ → Range → List ℕ
sel_line w range = around (codes "sel ") w (space ∷ []) ++ (around [] range.q0 (space ∷ []) ++ decimal range.q1)

-- `W SIDE Q0 Q1`
unfoldable pub spot_words : Spot → List ℕ
spot_words at = decimal at.window ++ space ∷ (side_word at.side ++ space ∷ (decimal at.range.q0
    ++ space ∷ decimal at.range.q1))

-- `exec W SIDE Q0 Q1`
unfoldable pub exec_line : Spot → List ℕ
exec_line at = codes "exec " ++ spot_words at

-- `arg W SIDE Q0 Q1 W SIDE Q0 Q1`
unfoldable pub arg_line : Spot → Spot → List ℕ
arg_line at chord = codes "arg " ++ (spot_words at ++ space ∷ spot_words chord)

-- `look W SIDE Q0 Q1`
unfoldable pub look_line : Spot → List ℕ
look_line at = codes "look " ++ spot_words at

-- `file PATH :TEXT`
unfoldable pub file_line : List ℕ → List ℕ → List ℕ
file_line path text = codes "file " ++ (path ++ space ∷ colon ∷ flat_map escaped text)

-- `dir PATH`
unfoldable pub dir_line : List ℕ → List ℕ
dir_line path = codes "dir " ++ path

-- the line of an event, without its newline
abbrev pub line_text : Event → List ℕ
line_text (event.Dial c) = dial_line c
line_text (event.Msg c m) = msg_line c (spelling_t m)
line_text (event.Hang c why) = hang_line c why
line_text (event.Took c) = took_line c
line_text event.New = new_line
line_text (event.Key w on text) = key_line w on text
line_text (event.Sel w range) = sel_line w range
line_text (event.Exec at) = exec_line at
line_text (event.Arg at chord) = arg_line at chord
line_text (event.Look at) = look_line at
line_text (event.File path text) = file_line path text
line_text (event.Dir path) = dir_line path

-- ---- reading

-- the number of a connection
abbrev pub conn_from : Option ℕ → Option ℕ
conn_from None = None
conn_from (Some n) = if nat_lt n connection_count then Some n else None

-- the number of a connection, in decimal
abbrev pub conn_at : List ℕ → Option ℕ
conn_at bs = conn_from (number_of bs)

-- the dialling of a connection
abbrev pub dial_from : Option ℕ → Option Event
dial_from None = None
dial_from (Some c) = Some (event.Dial c)

-- that which the bytes spell
abbrev pub dial_at : List ℕ → Option Event
dial_at bs = dial_from (conn_at bs)

-- the message that was read, on a connection
abbrev pub msg_read : ℕ → Result TMsg WireFault → Option Event
msg_read c (Ok m) = Some (event.Msg c m)
msg_read c (Err f) = None

-- the message of these bytes, if they aren't too many
abbrev pub msg_from : Option ℕ → Option (List ℕ) → Option Event
msg_from None bytes = None
msg_from (Some c) None = None
msg_from (Some c) (Some bytes) = if nat_lt max_msize (length bytes) then None else msg_read c (t_of bytes)

-- the message that the bytes spell
abbrev pub msg_at : List ℕ → Option Event
msg_at bs = msg_from (conn_at (first_field bs)) (bytes_of_hex (after_field bs))

-- the end of a connection, with its cause
abbrev pub hang_from : Option ℕ → Option Ending → Option Event
hang_from None why = None
hang_from (Some c) None = None
hang_from (Some c) (Some why) = Some (event.Hang c why)

-- that which the bytes spell
abbrev pub hang_at : List ℕ → Option Event
hang_at bs = hang_from (conn_at (first_field bs)) (ending_of (after_field bs))

-- that replies of a connection were taken
abbrev pub took_from : Option ℕ → Option Event
took_from None = None
took_from (Some c) = Some (event.Took c)

-- that which the bytes spell
abbrev pub took_at : List ℕ → Option Event
took_at bs = took_from (conn_at bs)

-- nothing stands after the word
abbrev pub new_at : List ℕ → Option Event
new_at [] = Some event.New
new_at (b ∷ bs) = None

-- the number of a window
abbrev pub window_from : Option ℕ → Option ℕ
window_from None = None
window_from (Some n) = if nat_lt n (2 ^ 32) then Some n else None

-- the number of a window, in decimal
abbrev pub window_at : List ℕ → Option ℕ
window_at bs = window_from (number_of bs)

-- the text of a window that has this word
abbrev pub side_of : List ℕ → Option Side
side_of word = if bytes_eq word (codes "tag") then Some side.Tag else
    (if bytes_eq word (codes "body") then Some side.Body else None)

-- the text after a colon
abbrev pub text_of : List ℕ → Option (List ℕ)
text_of [] = None
text_of (b ∷ bs) = if b == colon then unescaped bs else None

-- a key
abbrev pub key_from : Option ℕ → Option Side → Option (List ℕ) → Option Event
key_from None on text = None
key_from (Some w) None text = None
key_from (Some w) (Some on) None = None
key_from (Some w) (Some on) (Some text) = Some (event.Key w on text)

-- that which the bytes spell
abbrev pub key_at : List ℕ → Option Event
key_at bs = key_from (window_at (first_field bs)) (side_of (first_field (after_field bs)))
    (text_of (after_field (after_field bs)))

-- the range from the first number to the second, which isn't less
abbrev pub range_from : Option ℕ → Option ℕ → Option Range
range_from None q1 = None
range_from (Some q0) None = None
range_from (Some q0) (Some q1) = if nat_lt q1 q0 then None else Some (record { q0 = q0; q1 = q1 })

-- the range that the bytes spell
abbrev pub range_at : List ℕ → Option Range
range_at bs = range_from (number_of (first_field bs)) (number_of (after_field bs))

-- a selection
abbrev pub sel_from : Option ℕ → Option Range → Option Event
sel_from None range = None
sel_from (Some w) None = None
sel_from (Some w) (Some range) = Some (event.Sel w range)

-- that which the bytes spell
abbrev pub sel_at : List ℕ → Option Event
sel_at bs = sel_from (window_at (first_field bs)) (range_at (after_field bs))

-- a range of one of a window's texts
abbrev pub spot_from : Option ℕ → Option Side → Option Range → Option Spot
spot_from None on range = None
spot_from (Some w) None range = None
spot_from (Some w) (Some on) None = None
spot_from (Some w) (Some on) (Some range) = Some (record { window = w; side = on; range = range })

-- the one that the bytes spell
abbrev pub spot_at : List ℕ → Option Spot
spot_at bs = spot_from (window_at (first_field bs)) (side_of (first_field (after_field bs)))
    (range_at (after_field (after_field bs)))

-- the one that the first four fields spell, and the bytes after these
abbrev pub first_spot : List ℕ → Option Spot
first_spot bs = let ends = after_field (after_field bs) in
    spot_from (window_at (first_field bs)) (side_of (first_field (after_field bs)))
    (range_from (number_of (first_field ends)) (number_of (first_field (after_field ends))))

-- the bytes after the first four fields
abbrev pub after_spot : List ℕ → List ℕ
after_spot bs = after_field (after_field (after_field (after_field bs)))

-- an execution
abbrev pub exec_from : Option Spot → Option Event
exec_from None = None
exec_from (Some at) = Some (event.Exec at)

-- that which the bytes spell
abbrev pub exec_at : List ℕ → Option Event
exec_at bs = exec_from (spot_at bs)

-- an execution with an argument
abbrev pub arg_from : Option Spot → Option Spot → Option Event
arg_from None chord = None
arg_from (Some at) None = None
arg_from (Some at) (Some chord) = Some (event.Arg at chord)

-- that which the bytes spell
abbrev pub arg_at : List ℕ → Option Event
arg_at bs = arg_from (first_spot bs) (spot_at (after_spot bs))

-- a look
abbrev pub look_from : Option Spot → Option Event
look_from None = None
look_from (Some at) = Some (event.Look at)

-- that which the bytes spell
abbrev pub look_at : List ℕ → Option Event
look_at bs = look_from (spot_at bs)

-- the path of a file or a directory below `/`
abbrev pub path_at : List ℕ → Option (List ℕ)
path_at bs = if is_path_text bs then Some bs else None

-- the storing of a file
abbrev pub file_from : Option (List ℕ) → Option (List ℕ) → Option Event
file_from None text = None
file_from (Some path) None = None
file_from (Some path) (Some text) = Some (event.File path text)

-- that which the bytes spell
abbrev pub file_at : List ℕ → Option Event
file_at bs = file_from (path_at (first_field bs)) (text_of (after_field bs))

-- the making of a directory
abbrev pub dir_from : Option (List ℕ) → Option Event
dir_from None = None
dir_from (Some path) = Some (event.Dir path)

-- that which the bytes spell
abbrev pub dir_at : List ℕ → Option Event
dir_at bs = dir_from (path_at bs)

-- what the first front that the bytes begin with gives of the bytes after it
abbrev pub with_front : Option (List ℕ) → (List ℕ → Option Event) → Option Event → Option Event
with_front None read others = others
with_front (Some rest) read others = read rest

-- with none of the fronts, the others read the bytes
abbrev pub read_by : List (List ℕ × (List ℕ → Option Event)) → (List ℕ → Option Event) → List ℕ → Option Event
read_by [] others bs = others bs
read_by (r ∷ rs) others bs = with_front (after_front r.0 bs) r.1 (read_by rs others bs)

-- no event
abbrev pub none_at : List ℕ → Option Event
none_at bs = None

-- the event of a line that acts on a text of a window, or that stores a file or makes a directory
unfoldable pub action_of : List ℕ → Option Event
action_of bs =
    read_by ((codes "exec ", exec_at) ∷ (codes "arg ", arg_at) ∷ (codes "look ", look_at) ∷ (codes "file ", file_at)
    ∷ (codes "dir ", dir_at) ∷ []) none_at bs

-- the event of a line without its newline, if it is in the grammar
unfoldable pub event_of : List ℕ → Option Event
event_of bs =
    read_by ((codes "dial ", dial_at) ∷ (codes "msg ", msg_at) ∷ (codes "hang ", hang_at) ∷ (codes "took ", took_at)
    ∷ (codes "new", new_at) ∷ (codes "key ", key_at) ∷ (codes "sel ", sel_at) ∷ []) action_of bs
