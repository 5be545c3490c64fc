-- Attributes in one line: `name=value` with single blanks between, where a value may stand in quotes and then has each
-- quote twice. Reading goes from left to right.
use Rattle.std.specs.Prelude.{ℕ, Bool, false, ◌||◌, ◌==◌, List, [], ◌∷◌, ◌++◌, Option, Some, None, is_some}
use Rattle.std.specs.Prelude.{if◌then◌else◌}
use Rattle.std.specs.Char.{is_ascii_alphanumeric}
use Rattle.std.specs.Str.{is_utf8}
use Rattle.am_text.specs.Ascii.{tab, space, quote, equals, underscore}
use Rattle.plumb_msg.specs.Names.{is_known}
use Rattle.plumb_msg.specs.Texts.{is_text_front}
use Rattle.plumb_msg.specs.declared.message.Attr.{Attr}
use Rattle.plumb_msg.specs.declared.scanning.Stage.{Stage}
use Rattle.plumb_msg.specs.declared.scanning.Stage.TheVariants.{Start, Next, Name, Value, Plain, Quoted, Closed}
use Rattle.plumb_msg.specs.declared.scanning.Scan.{Scan}

-- a letter, a digit or `_`
abbrev pub is_name_byte : ℕ → Bool
is_name_byte b = is_ascii_alphanumeric b || b == underscore

-- a blank, a tab, a quote or `=`: a value with one of them stands in quotes
abbrev pub is_special : ℕ → Bool
is_special b = b == space || b == tab || b == quote || b == equals

-- ---- one byte

-- the same, at another stage
abbrev pub with_stage : Scan → Stage → Scan
with_stage s stage = record s { stage = stage }

-- the byte goes on with the name
abbrev pub named : Scan → ℕ → Option Scan
named s b = if is_name_byte b then Some (record s { name = s.name ++ b ∷ []; stage = Name }) else None

-- the name ends; no other attribute has it
abbrev pub name_ended : Scan → Option Scan
name_ended s = if is_known s.name s.attrs then None else Some (with_stage s Value)

-- the byte goes on with the value
abbrev pub put : Scan → ℕ → Stage → Scan
put s b stage = record s { value = s.value ++ b ∷ []; stage = stage }

-- the byte goes on with a value that stands as it is
abbrev pub plain : Scan → ℕ → Option Scan
plain s b = if is_special b then None else Some (put s b Plain)

-- the attribute with the name and the value that were read last
abbrev pub attr_of : Scan → Attr
attr_of s = record { name = s.name; value = s.value }

-- the attributes, with the one that was read last
abbrev pub attrs_with : Scan → List Attr
attrs_with s = s.attrs ++ attr_of s ∷ []

-- the attribute ends, and a next one follows
abbrev pub ended : Scan → Scan
ended s = record { attrs = attrs_with s; name = []; value = []; stage = Next }

-- the first byte of a value
abbrev pub step_value : Scan → ℕ → Option Scan
step_value s b = if b == quote then Some (with_stage s Quoted) else (if b == space then Some (ended s) else plain s b)

-- a further byte of a value that stands as it is
abbrev pub step_plain : Scan → ℕ → Option Scan
step_plain s b = if b == space then Some (ended s) else plain s b

-- a byte of a value in quotes
abbrev pub step_quoted : Scan → ℕ → Option Scan
step_quoted s b = if b == quote then Some (with_stage s Closed) else Some (put s b Quoted)

-- after a quote in quotes: another one makes it a quote of the value
abbrev pub step_closed : Scan → ℕ → Option Scan
step_closed s b = if b == quote then Some (put s b Quoted) else (if b == space then Some (ended s) else None)

-- one byte more at this stage
abbrev pub step_at : Stage → Scan → ℕ → Option Scan
step_at Start s b = named s b
step_at Next s b = named s b
step_at Name s b = if b == equals then name_ended s else named s b
step_at Value s b = step_value s b
step_at Plain s b = step_plain s b
step_at Quoted s b = step_quoted s b
step_at Closed s b = step_closed s b

-- one byte more, if a line goes on so
abbrev pub step : Scan → ℕ → Option Scan
step s b = step_at s.stage s b

-- ---- a whole line

-- nothing was read
abbrev pub start : Scan
start = record { attrs = []; name = []; value = []; stage = Start }

-- goes on where a line goes on
abbrev pub then_scan : Option Scan → (Scan → Option Scan) → Option Scan
then_scan None go = None
then_scan (Some s) go = go s

-- all bytes of a line, one after the other
unfoldable pub scan : Scan → List ℕ → Option Scan
scan s [] = Some s
scan s (b ∷ bs) = then_scan (step s b) (λ t. scan t bs)

-- the attributes, where the line ends here
abbrev pub finished_at : Stage → Scan → Option (List Attr)
finished_at Start s = Some s.attrs
finished_at Next s = None
finished_at Name s = None
finished_at Value s = Some (attrs_with s)
finished_at Plain s = Some (attrs_with s)
finished_at Quoted s = None
finished_at Closed s = Some (attrs_with s)

-- the attributes of a line that was read to its end
abbrev pub finished : Option Scan → Option (List Attr)
finished None = None
finished (Some s) = finished_at s.stage s

-- the attributes of a line
abbrev pub attrs_of : List ℕ → Option (List Attr)
attrs_of line = if is_utf8 line then finished (scan start line) else None

-- bytes that begin such a line
abbrev pub is_attrs_front : List ℕ → Bool
is_attrs_front bs = if is_text_front bs then is_some (scan start bs) else false
