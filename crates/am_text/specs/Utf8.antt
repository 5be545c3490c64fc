-- Texts as bytes: UTF-8 by the Unicode standard.
use Rattle.std.specs.Prelude.{ℕ, zero, suc, ◌+◌, ◌-◌, ◌*◌, Bool, ◌&&◌, List, [], ◌∷◌, slice_index, nat_lt}
use Rattle.std.specs.Prelude.{if◌then◌else◌}
use Rattle.std.specs.Int.{is_in_range}
use Rattle.std.specs.List.{flat_map}
use Rattle.std.specs.Prelude.{encode_utf8}
use lib.Utf8.{scalar}
use Rattle.std.specs.Str.Lossy.{second_byte_min, second_byte_max}

-- a later byte of a sequence; past the end stands 0, which is none
abbrev pub is_later : ℕ → Bool
is_later b = is_in_range 0x80 0xBF b

-- The bytes begin with a well-formed sequence of two, three or four bytes (Unicode, table 3-7).
abbrev pub begins_two : List ℕ → Bool
begins_two bs = is_in_range 0xC2 0xDF (slice_index bs 0) && is_later (slice_index bs 1)

abbrev pub begins_three : List ℕ → Bool
begins_three bs = let b = slice_index bs 0 in
    is_in_range 0xE0 0xEF b && is_in_range (second_byte_min b) (second_byte_max b) (slice_index bs 1)
    && is_later (slice_index bs 2)

abbrev pub begins_four : List ℕ → Bool
begins_four bs = let b = slice_index bs 0 in
    is_in_range 0xF0 0xF4 b && is_in_range (second_byte_min b) (second_byte_max b) (slice_index bs 1)
    && is_later (slice_index bs 2) && is_later (slice_index bs 3)

-- how many bytes the front of the bytes takes: those of its sequence, or one
unfoldable pub front_width : List ℕ → ℕ
front_width bs = if begins_two bs then 2 else (if begins_three bs then 3 else (if begins_four bs then 4 else 1))

-- the rune that they give
unfoldable pub front_rune : List ℕ → ℕ
front_rune bs = let b = slice_index bs 0 in
    if begins_two bs then (b - 0xC0) * 64 + (slice_index bs 1 - 0x80)
    else (if begins_three bs then (b - 0xE0) * 4096 + (slice_index bs 1 - 0x80) * 64 + (slice_index bs 2 - 0x80)
    else (if begins_four bs then (b - 0xF0) * 262144 + (slice_index bs 1 - 0x80) * 4096 + (slice_index bs 2 - 0x80) *
    64 + (slice_index bs 3 - 0x80)
    else (if nat_lt b 0x80 then b else 0xFFFD)))

-- the runes of the bytes, after n of them
unfoldable pub decode_after : ℕ → List ℕ → List ℕ
decode_after n [] = []
decode_after (suc n) (b ∷ bs) = decode_after n bs
decode_after zero (b ∷ bs) = front_rune (b ∷ bs) ∷ decode_after (front_width (b ∷ bs) - 1) bs

abbrev pub decode : List ℕ → List ℕ
decode bs = decode_after 0 bs

-- the bytes of a rune; what is no Unicode scalar value is written as U+FFFD
abbrev pub rune_bytes : ℕ → List ℕ
rune_bytes c = if scalar c then encode_utf8 c else encode_utf8 0xFFFD

-- the bytes of a text
abbrev pub utf8 : List ℕ → List ℕ
utf8 text = flat_map rune_bytes text
