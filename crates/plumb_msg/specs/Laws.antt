-- Laws of reading and writing.
use Rattle.std.specs.Prelude.{◌≡◌, ◌↔◌, ℕ, true, List, ◌++◌, length, Some}
use Rattle.std.specs.Str.{is_utf8}
use Rattle.plumb_msg.specs.Attributes.{attrs_of}
use Rattle.plumb_msg.specs.Reading.{read_of}
use Rattle.plumb_msg.specs.Spelling.{can_spell, msg_text}
use Rattle.plumb_msg.specs.Grammar.{IsAttrsLine, IsMessage, Begins, IsProperFront}
use Rattle.plumb_msg.specs.declared.message.Attr.{Attr}
use Rattle.plumb_msg.specs.declared.message.PlumbMsg.{PlumbMsg}
use Rattle.plumb_msg.specs.declared.message.PlumbRead.TheVariants.{Whole, More, Bad}

-- What is written is read again, whatever follows it.
abbrev pub ReadAgain : Type 0
ReadAgain = (m : PlumbMsg) (rest : List ℕ) → can_spell m ≡ true → read_of (msg_text m ++ rest) ≡ Whole m
    (length (msg_text m))

-- What is read stays read as bytes are added.
abbrev pub WholeStays : Type 0
WholeStays = (bytes more : List ℕ) (m : PlumbMsg) (used : ℕ) → read_of bytes ≡ Whole m used
    → read_of (bytes ++ more) ≡ Whole m used

-- bytes that begin no message begin none as bytes are added
abbrev pub BadStays : Type 0
BadStays = (bytes more : List ℕ) → read_of bytes ≡ Bad → read_of (bytes ++ more) ≡ Bad

-- A message is read exactly where the bytes begin with it.
abbrev pub WholeIsExact : Type 0
WholeIsExact = (bytes : List ℕ) (m : PlumbMsg) (used : ℕ) → (read_of bytes ≡ Whole m used) ↔ Begins bytes m used

-- More bytes are asked for exactly where the bytes are a proper front of a message.
abbrev pub MoreIsExact : Type 0
MoreIsExact = (bytes : List ℕ) → (read_of bytes ≡ More) ↔ IsProperFront bytes

-- The bytes are bad exactly where they don't begin with a message and no bytes after them make them one.
abbrev pub BadIsExact : Type 0
BadIsExact = (bytes : List ℕ) → (read_of bytes ≡ Bad) ↔ (((m : PlumbMsg) (used : ℕ) → Begins bytes m used → ⊥)
    × ((more : List ℕ) (m : PlumbMsg) → IsMessage (bytes ++ more) m → ⊥))

-- A line that is UTF-8 is read as the attributes that it is, and no other line is read.
abbrev pub AttrsAreExact : Type 0
AttrsAreExact = (line : List ℕ) (attrs : List Attr) → (attrs_of line ≡ Some attrs) ↔
    ((is_utf8 line ≡ true) × IsAttrsLine line attrs)

-- A line is one list of attributes at most.
abbrev pub LineIsOneList : Type 0
LineIsOneList = (line : List ℕ) (attrs others : List Attr) → IsAttrsLine line attrs → IsAttrsLine line others
    → attrs ≡ others
