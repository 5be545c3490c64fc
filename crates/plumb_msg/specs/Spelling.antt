-- How a message is written.
use Rattle.std.specs.Prelude.{ℕ, Bool, true, false, ◌&&◌, ◌==◌, List, [], ◌∷◌, ◌++◌, length, nat_le, if◌then◌else◌}
use Rattle.std.specs.Fmt.{decimal}
use Rattle.std.specs.List.{list_all, list_any, flat_map}
use Rattle.am_text.specs.Ascii.{newline, space, quote, equals}
use Rattle.plumb_msg.specs.Limits.{max_data}
use Rattle.plumb_msg.specs.Texts.{is_line}
use Rattle.plumb_msg.specs.Attributes.{is_name_byte, is_special}
use Rattle.plumb_msg.specs.Names.{is_known}
use Rattle.plumb_msg.specs.declared.message.Attr.{Attr}
use Rattle.plumb_msg.specs.declared.message.PlumbMsg.{PlumbMsg}

-- a byte of a value in quotes: a quote stands twice
abbrev pub doubled : ℕ → List ℕ
doubled b = if b == quote then quote ∷ quote ∷ [] else b ∷ []

-- in quotes, each quote inside twice
unfoldable pub quoted : List ℕ → List ℕ
quoted value = quote ∷ (flat_map doubled value ++ quote ∷ [])

-- whether a value has a byte for which it stands in quotes
abbrev pub needs_quotes : List ℕ → Bool
needs_quotes value = list_any is_special value

-- a value as it is written: in quotes where it needs them
abbrev pub value_text : List ℕ → List ℕ
value_text value = if needs_quotes value then quoted value else value

-- an attribute: name, `=` and value
unfoldable pub attr_text : Attr → List ℕ
attr_text a = a.name ++ equals ∷ value_text a.value

-- an attribute after a blank
abbrev pub after_blank : Attr → List ℕ
after_blank a = space ∷ attr_text a

-- with single blanks between
abbrev pub attrs_text : List Attr → List ℕ
attrs_text [] = []
attrs_text (a ∷ others) = attr_text a ++ flat_map after_blank others

-- a text and its newline
abbrev pub line : List ℕ → List ℕ
line text = text ++ newline ∷ []

-- the bytes of a message, with this line for its attributes
unfoldable pub msg_bytes : PlumbMsg → List ℕ → List ℕ
msg_bytes m attributes =
    line m.src ++ line m.dst ++ line m.wdir ++ line m.sort ++ line attributes ++ line (decimal (length m.body))
    ++ m.body

-- the bytes of a message as it is written
abbrev pub msg_text : PlumbMsg → List ℕ
msg_text m = msg_bytes m (attrs_text m.attrs)

-- ---- what can be written

-- all bytes may stand in a name
abbrev pub are_name_bytes : List ℕ → Bool
are_name_bytes name = list_all is_name_byte name

-- letters, digits and `_`, one at least
abbrev pub is_name : List ℕ → Bool
is_name name = if length name == 0 then false else are_name_bytes name

-- each has a name, which none of those before it has
abbrev pub are_named : List Attr → List Attr → Bool
are_named before [] = true
are_named before (a ∷ after) = if is_known a.name before then false else
    (if is_name a.name then are_named (before ++ a ∷ []) after else false)

-- the texts stand in one line each, the attributes have names that differ, and the data aren't too long
unfoldable pub can_spell : PlumbMsg → Bool
can_spell m =
    is_line m.src && is_line m.dst && is_line m.wdir && is_line m.sort && is_line (attrs_text m.attrs)
    && are_named [] m.attrs && nat_le (length m.body) max_data
