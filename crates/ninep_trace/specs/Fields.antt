-- The kinds of fields of a message in words: how each is spelled, and how it is read from the front of the bytes.
-- A front is a blank, the field's name and `=`. Reading gives the value and the bytes after it.
use Rattle.std.specs.Prelude.{zero, suc, ◌≡◌, ℕ, ◌+◌, ◌^◌, Bool, true, false, ◌&&◌, nat_lt, ◌==◌, List, [], ◌∷◌, ◌++◌}
use Rattle.std.specs.Prelude.{length, Option, Some, None, Result, Ok, Err, if◌then◌else◌}
use Rattle.std.specs.Char.{is_ascii_digit}
use Rattle.std.specs.Fmt.{decimal}
use Rattle.std.specs.List.{flat_map}
use Rattle.am_text.specs.Ascii.{newline, space, quote, dot, backslash, letter_n}
use Rattle.am_text.specs.Number.{number_of}
use Rattle.ninep_types.specs.declared.message.Qid.{Qid}
use Rattle.ninep_types.specs.Fields.{is_text}
use Rattle.ninep_types.specs.Limits.{max_names}
use Rattle.am_journal.specs.Hexadecimal.{hex_of, bytes_of_hex}
use Rattle.am_text.specs.Front.{after_front}
use Rattle.ninep_trace.specs.declared.unread.Unread.{Unread}
use Rattle.ninep_trace.specs.declared.unread.Unread.TheVariants as unread

infixl 10 ◌>>=◌
-- what a next part gives, if there is this one
abbrev pub ◌>>=◌ : {A B : Type 0} → Option A → (A → Option B) → Option B
(Some x) >>= f = f x
None >>= f = None

-- What a function returned, seen by view, is what reading gives, unless memory ran out.
abbrev pub Fails : {Y : Type 0} → Unread → Option Y → Type 0
Fails unread.NoMemory read = Unit {0}
Fails unread.NotWords read = read ≡ None

-- What a function returned, seen by view, is what reading gives, unless memory ran out.
abbrev pub Gives : {X Y : Type 0} → (X → Y) → Result X Unread → Option Y → Type 0
Gives view (Ok x) read = read ≡ Some (view x)
Gives view (Err e) read = Fails e read

-- ---- a number in decimal

-- the digits at the front, and the bytes after them
abbrev pub digits : List ℕ → List ℕ
digits [] = []
digits (b ∷ bs) = if is_ascii_digit b then b ∷ digits bs else []

-- the bytes after the digits at the front
abbrev pub after_digits : List ℕ → List ℕ
after_digits [] = []
after_digits (b ∷ bs) = if is_ascii_digit b then after_digits bs else b ∷ bs

-- the number that the digits spell
abbrev pub value_with : Option ℕ → List ℕ → Option (ℕ × List ℕ)
value_with None rest = None
value_with (Some n) rest = Some (n, rest)

-- a number
unfoldable pub value_at : List ℕ → Option (ℕ × List ℕ)
value_at bytes = value_with (number_of (digits bytes)) (after_digits bytes)

-- a number below a limit
abbrev pub below : ℕ → ℕ × List ℕ → Option (ℕ × List ℕ)
below limit n = if nat_lt n.0 limit then Some n else None

-- a number below a limit
unfoldable pub small_at : ℕ → List ℕ → Option (ℕ × List ℕ)
small_at limit bytes = do
  n ← value_at bytes
  below limit n

-- `FRONT N`
unfoldable pub number : List ℕ → ℕ → List ℕ
number front n = front ++ decimal n

-- a front, and a number below a limit
unfoldable pub number_at : List ℕ → ℕ → List ℕ → Option (ℕ × List ℕ)
number_at front limit bytes = do
  rest ← after_front front bytes
  small_at limit rest

-- ---- a string, in quotes: UTF-8 without NUL, of fewer than 2 ^ 16 bytes

-- `q`, which stands for a quote behind a backslash
abbrev pub letter_q : ℕ
letter_q = 113

-- a byte in quotes: newline is `\n`, backslash `\\`, and the quote `\q`
abbrev pub marked : ℕ → List ℕ
marked b =
    if b == newline then backslash ∷ letter_n ∷ []
    else (if b == backslash then backslash ∷ backslash ∷ []
    else (if b == quote then backslash ∷ letter_q ∷ [] else b ∷ []))

-- a text in quotes
unfoldable pub quoted : List ℕ → List ℕ
quoted bytes = quote ∷ (flat_map marked bytes ++ quote ∷ [])

-- This text, and then what the bytes stand for up to the closing quote, where a backslash came just before them or not;
-- and the bytes after the quote. None where there is no quote, or before it a newline or a backslash
-- that stands for no byte.
unfoldable pub unquoted_after : List ℕ → Bool → List ℕ → Option (List ℕ × List ℕ)
unquoted_after text b [] = None
unquoted_after text false (b ∷ bs) =
    if b == quote then Some (text, bs)
    else (if b == newline then None else (if b == backslash then unquoted_after text true bs
    else unquoted_after (text ++ b ∷ []) false bs))
unquoted_after text true (b ∷ bs) =
    if b == letter_n then unquoted_after (text ++ newline ∷ []) false bs
    else (if b == backslash then unquoted_after (text ++ backslash ∷ []) false bs
    else (if b == letter_q then unquoted_after (text ++ quote ∷ []) false bs else None))

-- UTF-8 without NUL, of fewer than 2 ^ 16 bytes
abbrev pub is_string : List ℕ → Bool
is_string bytes = is_text bytes && nat_lt (length bytes) (2 ^ 16)

-- a text that was read, if it is a string
abbrev pub if_string : List ℕ × List ℕ → Option (List ℕ × List ℕ)
if_string read = if is_string read.0 then Some read else None

-- a string in quotes
unfoldable pub quoted_at : List ℕ → Option (List ℕ × List ℕ)
quoted_at bytes = do
  inside ← after_front (quote ∷ []) bytes
  read ← unquoted_after [] false inside
  if_string read

-- `FRONT 'TEXT'`
unfoldable pub text : List ℕ → List ℕ → List ℕ
text front bytes = front ++ quoted bytes

-- a front, and a string in quotes
unfoldable pub text_at : List ℕ → List ℕ → Option (List ℕ × List ℕ)
text_at front bytes = do
  rest ← after_front front bytes
  quoted_at rest

-- ---- data: two small digits for each byte, to the end of the line

-- `FRONT HEX`
unfoldable pub bytes_in_hex : List ℕ → List ℕ → List ℕ
bytes_in_hex front bytes = front ++ hex_of bytes

-- fewer bytes than a limit, and nothing after them
abbrev pub fewer : ℕ → List ℕ → Option (List ℕ × List ℕ)
fewer limit bytes = if nat_lt (length bytes) limit then Some (bytes, []) else None

-- a front, and fewer bytes than a limit
unfoldable pub bytes_in_hex_at : List ℕ → ℕ → List ℕ → Option (List ℕ × List ℕ)
bytes_in_hex_at front limit bytes = do
  rest ← after_front front bytes
  read ← bytes_of_hex rest
  fewer limit read

-- ---- a qid: its type, its version and its path, with full stops

-- `TYPE.VERSION.PATH`
unfoldable pub qid_text : Qid → List ℕ
qid_text q = decimal q.kind ++ dot ∷ (decimal q.vers ++ dot ∷ decimal q.path)

-- a qid
unfoldable pub qid_at : List ℕ → Option (Qid × List ℕ)
qid_at bytes = do
  kind ← small_at (2 ^ 8) bytes
  second ← after_front (dot ∷ []) kind.1
  vers ← small_at (2 ^ 32) second
  third ← after_front (dot ∷ []) vers.1
  path ← small_at (2 ^ 64) third
  Some (record { kind = kind.0; vers = vers.0; path = path.0 }, path.1)

-- `FRONT QID`
unfoldable pub qid_field : List ℕ → Qid → List ℕ
qid_field front q = front ++ qid_text q

-- a front, and a qid
unfoldable pub qid_field_at : List ℕ → List ℕ → Option (Qid × List ℕ)
qid_field_at front bytes = do
  rest ← after_front front bytes
  qid_at rest

-- ---- a list of at most 16 members: their number, and each member after a blank

-- a member after a blank
abbrev pub blank_and : {A : Type 0} → (A → List ℕ) → A → List ℕ
blank_and spelled member = space ∷ spelled member

-- `FRONT COUNT MEMBERS`
unfoldable pub listed : {A : Type 0} → List ℕ → (A → List ℕ) → List A → List ℕ
listed front spelled members = number front (length members) ++ flat_map (blank_and spelled) members

-- n members, each after a blank
unfoldable pub several_at : {A : Type 0} → (List ℕ → Option (A × List ℕ)) → ℕ → List ℕ → Option (List A × List ℕ)
several_at one_at zero bytes = Some ([], bytes)
several_at one_at (suc n) bytes = do
  rest ← after_front (space ∷ []) bytes
  first ← one_at rest
  others ← several_at one_at n first.1
  Some (first.0 ∷ others.0, others.1)

-- a front, and a list
unfoldable pub listed_at : {A : Type 0} → List ℕ → (List ℕ → Option (A × List ℕ)) → List ℕ → Option (List A × List ℕ)
listed_at front one_at bytes = do
  n ← number_at front (max_names + 1) bytes
  several_at one_at n.0 n.1
