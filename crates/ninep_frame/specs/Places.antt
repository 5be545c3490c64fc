-- How a record is read: its fields are taken from their places, and the bytes are taken only where they
-- are the record of these.
use Rattle.std.specs.Prelude.{ℕ, ◌+◌, Bool, ◌&&◌, ◌==◌, nat_le, List, length, take, drop, slice_index, Option, Some}
use Rattle.std.specs.Prelude.{None, if◌then◌else◌}
use Rattle.std.specs.Int.{w16, w32, w64, from_le_bytes}
use Rattle.std.specs.Str.{bytes_eq}
use Rattle.ninep_types.specs.Fields.{is_text}
use Rattle.ninep_frame.specs.Layout.{qid_kind_place, qid_vers_place, qid_path_place, mode_place, length_place}
use Rattle.ninep_frame.specs.Layout.{name_len_place, name_place, unnamed_size}
use Rattle.ninep_frame.specs.declared.stat.Stat.{Stat}
use Rattle.ninep_frame.specs.Records.{record_of}

-- the number of two bytes at a place
abbrev pub u16_at : ℕ → List ℕ → ℕ
u16_at at bytes = from_le_bytes w16 (take 2 (drop at bytes))

-- that of four
abbrev pub u32_at : ℕ → List ℕ → ℕ
u32_at at bytes = from_le_bytes w32 (take 4 (drop at bytes))

-- that of eight
abbrev pub u64_at : ℕ → List ℕ → ℕ
u64_at at bytes = from_le_bytes w64 (take 8 (drop at bytes))

-- the name
abbrev pub name_at : List ℕ → List ℕ
name_at bytes = take (u16_at name_len_place bytes) (drop name_place bytes)

-- the stat whose fields stand at their places
unfoldable pub stat_at : List ℕ → Stat
stat_at bytes = record {
  qid = record {
    kind = slice_index bytes qid_kind_place;
    vers = u32_at qid_vers_place bytes;
    path = u64_at qid_path_place bytes;
  };
  mode = u32_at mode_place bytes;
  length = u64_at length_place bytes;
  name = name_at bytes;
}

-- the size is that of the bytes, the name leaves what is behind it, and it is UTF-8 without NUL
unfoldable pub is_formed : List ℕ → Bool
is_formed bytes =
    nat_le unnamed_size (length bytes) && (length bytes == 2 + u16_at 0 bytes)
    && (length bytes == unnamed_size + u16_at name_len_place bytes) && is_text (name_at bytes)

-- the stat whose record the bytes are
unfoldable pub stat_of : List ℕ → Option Stat
stat_of bytes = if is_formed bytes && bytes_eq (record_of (stat_at bytes)) bytes then Some (stat_at bytes) else None
