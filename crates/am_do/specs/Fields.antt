-- The fields of a line of `do`.
use Rattle.std.specs.Prelude.{◌≡◌, ◌≤◌, ◌<◌, ◌^◌, ℕ, zero, suc, Bool, true, false, ◌&&◌, List, [], ◌∷◌, ◌++◌, length}
use Rattle.std.specs.Prelude.{Option, Some, None, nat_lt, nat_le, ◌==◌, if◌then◌else◌, codes}
use Rattle.std.specs.List.{list_all}
use Rattle.std.specs.Str.{bytes_eq, is_utf8}
use Rattle.am_text.specs.Ascii.{space, slash, colon}
use Rattle.am_text.specs.Number.{number_of}
use Rattle.am_text.specs.Escapes.{unescaped}
use Rattle.am_text.specs.Utf8.{utf8}
use Rattle.ninep_types.specs.Limits.{max_names}
use Rattle.am_do.specs.LineLimits.{most_fids, most_bytes, most_name_bytes}

-- the number of a fid: 1 to 1,000
abbrev pub fid_from : Option ℕ → Option ℕ
fid_from None = None
fid_from (Some n) = if nat_lt 0 n && nat_le n most_fids then Some n else None

-- the number of a fid, in decimal
abbrev pub fid_at : List ℕ → Option ℕ
fid_at bytes = fid_from (number_of bytes)

-- a number of bytes to read: at most 8,000
abbrev pub count_from : Option ℕ → Option ℕ
count_from None = None
count_from (Some n) = if nat_le n most_bytes then Some n else None

-- a number of bytes to read, in decimal
abbrev pub count_at : List ℕ → Option ℕ
count_at bytes = count_from (number_of bytes)

-- the mode of an opening: for reading, for writing, for both
abbrev pub mode_at : List ℕ → Option ℕ
mode_at word = if bytes_eq word (codes "r") then Some 0 else (if bytes_eq word (codes "w") then Some 1 else
    (if bytes_eq word (codes "rw") then Some 2 else None))

-- bytes to be written: a text after a colon, of at most 8,000 bytes
abbrev pub few_bytes : List ℕ → Option (List ℕ)
few_bytes bytes = if nat_le (length bytes) most_bytes then Some bytes else None

-- the bytes of a text, if they aren't too many
abbrev pub bytes_from : Option (List ℕ) → Option (List ℕ)
bytes_from None = None
bytes_from (Some text) = few_bytes (utf8 text)

-- the bytes that stand after a colon
abbrev pub bytes_at : List ℕ → Option (List ℕ)
bytes_at [] = None
bytes_at (b ∷ bs) = if b == colon then bytes_from (unescaped bs) else None

-- ---- names

-- neither a blank nor a control
abbrev pub is_visible : ℕ → Bool
is_visible b = nat_lt space b

-- a name: UTF-8 of 1 to 65,535 bytes, without runes of at most 0x20
abbrev pub is_name : List ℕ → Bool
is_name name = nat_lt 0 (length name) && (nat_le (length name) most_name_bytes
    && (is_utf8 name && list_all is_visible name))

-- the bytes up to the first `/`
abbrev pub first_name : List ℕ → List ℕ
first_name [] = []
first_name (b ∷ bs) = if b == slash then [] else b ∷ first_name bs

-- the bytes after the first `/`, if there is one
abbrev pub after_name : List ℕ → Option (List ℕ)
after_name [] = None
after_name (b ∷ bs) = if b == slash then Some bs else after_name bs

-- a name in front of names
abbrev pub onto_names : List ℕ → Option (List (List ℕ)) → Option (List (List ℕ))
onto_names name None = None
onto_names name (Some names) = Some (name ∷ names)

-- a name, and those behind its `/`
abbrev pub names_behind : (List ℕ → Option (List (List ℕ))) → List ℕ → Option (List ℕ) → Option (List (List ℕ))
names_behind go name None = Some (name ∷ [])
names_behind go name (Some rest) = onto_names name (go rest)

-- at most so many names, with `/` between them
unfoldable pub names_within : ℕ → List ℕ → Option (List (List ℕ))
names_within zero bytes = None
names_within (suc n) bytes = if is_name (first_name bytes) then names_behind (names_within n) (first_name bytes)
    (after_name bytes) else None

-- the names of an opening
abbrev pub names_at : List ℕ → Option (List (List ℕ))
names_at bytes = names_within max_names bytes
