-- The kinds of fields: how each is spelled, and how it is read from the front of the bytes.
-- Reading gives the value and the bytes after it, or the first fault.
use Rattle.std.specs.Prelude.{zero, suc, ◌≡◌, ℕ, Bool, not, ◌&&◌, List, [], ◌∷◌, ◌++◌, length, take, drop, Result, Ok}
use Rattle.std.specs.Prelude.{Err, nat_lt, ◌==◌, if◌then◌else◌}
use Rattle.std.specs.Int.{Width, w16, w32, w64, byte_len, from_le_bytes, to_le_bytes}
use Rattle.std.specs.List.{list_any, flat_map}
use Rattle.std.specs.Str.{is_utf8}
use Rattle.ninep_types.specs.Limits.{max_names}
use Rattle.ninep_types.specs.declared.fault.WireFault.{WireFault}
use Rattle.ninep_types.specs.declared.fault.WireFault.TheVariants.{Short, Text, Names}
use Rattle.ninep_types.specs.declared.fault.WireError.{WireError}
use Rattle.ninep_types.specs.declared.fault.WireError.TheVariants as errors
use Rattle.ninep_types.specs.declared.message.Qid.{Qid}

infixl 10 ◌>>=◌
-- what a next part gives, if there is this one
abbrev pub ◌>>=◌ : {A B : Type 0} → Result A WireFault → (A → Result B WireFault) → Result B WireFault
(Ok x) >>= f = f x
(Err e) >>= f = Err e

-- What a function returned, seen by view, is what reading gives, unless memory ran out.
abbrev pub Fails : {Y : Type 0} → WireError → Result Y WireFault → Type 0
Fails errors.NoMemory read = Unit {0}
Fails (errors.Fault f) read = read ≡ Err f

-- What a function returned, seen by view, is what reading gives, unless memory ran out.
abbrev pub Gives : {X Y : Type 0} → (X → Y) → Result X WireError → Result Y WireFault → Type 0
Gives view (Ok x) read = read ≡ Ok (view x)
Gives view (Err e) read = Fails e read

-- ---- a byte, a number of 2, 4 or 8 bytes, and so many bytes

-- a byte
abbrev pub byte_at : List ℕ → Result (ℕ × List ℕ) WireFault
byte_at [] = Err Short
byte_at (b ∷ rest) = Ok (b, rest)

-- a number, its low byte first
abbrev pub number_at : Width → List ℕ → Result (ℕ × List ℕ) WireFault
number_at w bytes =
    if nat_lt (length bytes) (byte_len w) then Err Short
    else Ok (from_le_bytes w (take (byte_len w) bytes), drop (byte_len w) bytes)

-- n bytes
abbrev pub bytes_at : ℕ → List ℕ → Result (List ℕ × List ℕ) WireFault
bytes_at n bytes = if nat_lt (length bytes) n then Err Short else Ok (take n bytes, drop n bytes)

-- ---- a string: two bytes of its length, and UTF-8 without NUL

-- the spelling of a string
abbrev pub string : List ℕ → List ℕ
string text = to_le_bytes w16 (length text) ++ text

-- UTF-8 without NUL
unfoldable pub is_text : List ℕ → Bool
is_text bytes = is_utf8 bytes && not (list_any (λ b. b == 0) bytes)

-- a string
unfoldable pub string_at : List ℕ → Result (List ℕ × List ℕ) WireFault
string_at bytes = do
  n ← number_at w16 bytes
  text ← bytes_at n.0 n.1
  if is_text text.0 then Ok text else Err Text

-- ---- data: a number of bytes, and that many bytes

-- the spelling of data
abbrev pub counted : Width → List ℕ → List ℕ
counted w bytes = to_le_bytes w (length bytes) ++ bytes

-- data
unfoldable pub counted_at : Width → List ℕ → Result (List ℕ × List ℕ) WireFault
counted_at w bytes = do
  n ← number_at w bytes
  bytes_at n.0 n.1

-- ---- a qid: its type, its version and its path

-- the spelling of a qid
abbrev pub qid_bytes : Qid → List ℕ
qid_bytes q = q.kind ∷ [] ++ (to_le_bytes w32 q.vers ++ to_le_bytes w64 q.path)

-- a qid
unfoldable pub qid_at : List ℕ → Result (Qid × List ℕ) WireFault
qid_at bytes = do
  kind ← byte_at bytes
  vers ← number_at w32 kind.1
  path ← number_at w64 vers.1
  Ok (record { kind = kind.0; vers = vers.0; path = path.0 }, path.1)

-- ---- a list of at most 16 members: two bytes of their number, and the members

-- the spelling of a list
abbrev pub listed : {A : Type 0} → (A → List ℕ) → List A → List ℕ
listed spelled members = to_le_bytes w16 (length members) ++ flat_map spelled members

-- the number of members of a list
abbrev pub count_at : List ℕ → Result (ℕ × List ℕ) WireFault
count_at bytes = do
  n ← number_at w16 bytes
  if nat_lt max_names n.0 then Err Names else Ok n

-- n members, one after the other
unfoldable pub several_at : {A : Type 0} → (List ℕ → Result (A × List ℕ) WireFault) → ℕ → List ℕ
    → Result (List A × List ℕ) WireFault
several_at one_at zero bytes = Ok ([], bytes)
several_at one_at (suc n) bytes = do
  first ← one_at bytes
  others ← several_at one_at n first.1
  Ok (first.0 ∷ others.0, others.1)

-- a list
unfoldable pub listed_at : {A : Type 0} → (List ℕ → Result (A × List ℕ) WireFault) → List ℕ
    → Result (List A × List ℕ) WireFault
listed_at one_at bytes = do
  n ← count_at bytes
  several_at one_at n.0 n.1
