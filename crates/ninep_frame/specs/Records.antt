-- Stat records: what they are, and which stats have one.
use Rattle.std.specs.Prelude.{◌≡◌, ◌<◌, ◌^◌, ◌+◌, ℕ, true, List, ◌++◌, length, codes}
use Rattle.std.specs.Int.{w16, w32, w64, to_le_bytes}
use Rattle.ninep_types.specs.Fields.{string, counted, qid_bytes, is_text}
use Rattle.ninep_types.specs.Spelling.{IsQid}
use Rattle.ninep_frame.specs.Layout.{unnamed_size, fixed_size, name_limit}
use Rattle.ninep_frame.specs.declared.stat.Stat.{Stat}

-- uid, gid and muid
unfoldable pub owners : List ℕ
owners = string (codes "acme") ++ (string (codes "acme") ++ string (codes "acme"))

-- type and dev
unfoldable pub no_device : List ℕ
no_device = to_le_bytes w16 0 ++ to_le_bytes w32 0

-- atime and mtime
unfoldable pub no_times : List ℕ
no_times = to_le_bytes w32 0 ++ to_le_bytes w32 0

-- the fields after the size
unfoldable pub stat_fields : Stat → List ℕ
stat_fields s =
    no_device ++ (qid_bytes s.qid ++ (to_le_bytes w32 s.mode
    ++ (no_times ++ (to_le_bytes w64 s.length ++ (string s.name ++ owners)))))

-- the record of a stat; its size doesn't count its own two bytes
unfoldable pub record_of : Stat → List ℕ
record_of s = counted w16 (stat_fields s)

-- how many bytes it has
abbrev pub record_size : Stat → ℕ
record_size s = unnamed_size + length s.name

-- a name that a record can be written with: UTF-8 without NUL, below 65,000 bytes
pub record IsName (name : List ℕ) : Type 0 where
  pub text : is_text name ≡ true
  pub len : length name < name_limit

-- a stat whose record can be written
abbrev pub HasName : Stat → Type 0
HasName s = IsName s.name

-- The bytes are the record of the stat: its name is UTF-8 without NUL, and its size fits two bytes.
pub record IsRecord (s : Stat) (bytes : List ℕ) : Type 0 where
  pub text : is_text s.name ≡ true
  pub size : fixed_size + length s.name < 2 ^ 16
  pub bytes_are : bytes ≡ record_of s

-- each number fits its field, as each of a value of the program does
pub record InRange (s : Stat) : Type 0 where
  pub qid : IsQid s.qid
  pub mode : s.mode < 2 ^ 32
  pub len : s.length < 2 ^ 64
