-- How many bytes a record has.
use Rattle.std.proofs.Common.{◌≡◌, ℕ, ◌+◌, List, length, arith, length-append}
use Rattle.std.specs.Int.{w16, to_le_bytes}
use Rattle.ninep_types.specs.Fields.{string}
use Rattle.ninep_frame.specs.declared.stat.Stat.{Stat}
use Rattle.ninep_frame.specs.Records.{owners, no_device, no_times, stat_fields, record_of}

string_len : (text : List ℕ) → length (string text) ≡ 2 + length text
string_len text = omega (arith, length-append (to_le_bytes w16 (length text)) text)

pub fields_len : (s : Stat) → length (stat_fields s) ≡ 59 + length s.name
unfolding stat_fields owners no_device no_times
fields_len s = simp length-append (omega (arith, string_len s.name))

pub record_len : (s : Stat) → length (record_of s) ≡ 61 + length s.name
unfolding record_of
record_len s = omega (arith, fields_len s, length-append (to_le_bytes w16 (length (stat_fields s))) (stat_fields s))

pub ruleset sizes = (fields_len, record_len)
