-- The grammar of messages and of lines of attributes, apart from how they are read.
use Rattle.std.specs.Prelude.{◌≡◌, ◌⊎◌, ◌<◌, ◌≤◌, ℕ, true, false, List, [], ◌∷◌, ◌++◌, length, map, take}
use Rattle.std.specs.List.{IsDistinct}
use Rattle.std.specs.Str.{bytes_eq}
use Rattle.am_text.specs.Ascii.{space, equals}
use Rattle.plumb_msg.specs.Limits.{max_data}
use Rattle.plumb_msg.specs.Texts.{is_line}
use Rattle.plumb_msg.specs.Spelling.{needs_quotes, quoted, is_name, msg_bytes}
use Rattle.plumb_msg.specs.declared.message.Attr.{Attr}
use Rattle.plumb_msg.specs.declared.message.PlumbMsg.{PlumbMsg}

-- ---- lines of attributes

-- a value as it stands, with no blank, tab, quote or `=` in it, or in quotes, with each quote of it twice
abbrev pub IsValue : List ℕ → List ℕ → Type 0
IsValue text value = ((text ≡ value) × (needs_quotes value ≡ false)) ⊎ (text ≡ quoted value)

-- a name, `=` and a value
abbrev pub IsAttr : List ℕ → Attr → Type 0
IsAttr text a = (is_name a.name ≡ true) × (value : List ℕ) × IsValue value a.value × (text ≡ a.name ++ equals ∷ value)

-- attributes with single blanks between, and none where nothing stands
abbrev pub AreAttrs : List ℕ → List Attr → Type 0
AreAttrs line [] = line ≡ []
AreAttrs line (a ∷ []) = IsAttr line a
AreAttrs line (a ∷ b ∷ others) = (text rest : List ℕ) × (line ≡ text ++ space ∷ rest) × IsAttr text a
    × AreAttrs rest (b ∷ others)

-- the names of attributes, in their order
abbrev pub names_of : List Attr → List (List ℕ)
names_of attrs = map (λ a. a.name) attrs

-- The line is these attributes, and their names differ. That it is UTF-8 in one line is asked apart.
pub record IsAttrsLine (line : List ℕ) (attrs : List Attr) : Type 0 where
  pub attributes : AreAttrs line attrs
  pub names : IsDistinct bytes_eq (names_of attrs)

-- ---- messages

-- The bytes are this message: five lines of text, the number of the data in a line, and the data.
pub record IsMessage (bytes : List ℕ) (m : PlumbMsg) : Type 0 where
  pub src : is_line m.src ≡ true
  pub dst : is_line m.dst ≡ true
  pub wdir : is_line m.wdir ≡ true
  pub sort : is_line m.sort ≡ true
  -- the line of attributes; a value may stand in quotes or not, so a message may have several
  pub attributes : List ℕ
  pub one_line : is_line attributes ≡ true
  pub attrs : IsAttrsLine attributes m.attrs
  pub small : length m.body ≤ max_data
  pub spelled : bytes ≡ msg_bytes m attributes

-- The bytes begin with a message.
pub record Begins (bytes : List ℕ) (m : PlumbMsg) (used : ℕ) : Type 0 where
  pub inside : used ≤ length bytes
  pub message : IsMessage (take used bytes) m

-- The bytes are a proper front of a message: some more bytes make them one.
pub record IsProperFront (bytes : List ℕ) : Type 0 where
  pub more : List ℕ
  pub some : 0 < length more
  pub m : PlumbMsg
  pub message : IsMessage (bytes ++ more) m
