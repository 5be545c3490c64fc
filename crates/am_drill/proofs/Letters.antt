-- A letter is a rune of one byte.
use Rattle.std.proofs.Common.{◌≡◌, ℕ, ◌<◌, true, false, [], ◌∷◌, refl, arith}
use Rattle.std.specs.Prelude.{nat_lt}
use Rattle.std.specs.Int.{is_in_range}
use Rattle.std.proofs.lemmas.Bool.Decides.{nat_tests}
use Rattle.am_text.specs.Pieces.{decode_part, is_begun, rest_of, whole_of}
use Rattle.am_text.specs.Utf8.{decode_after, front_width, front_rune}

pub outside : (low high c : ℕ) → c < low → is_in_range low high c ≡ false
outside low high c h = grind (arith, nat_tests)

pub letter_decoded : (c : ℕ) → c < 128 → decode_part (c ∷ []) ≡ record { text = c ∷ []; rest = [] }
unfolding is_begun rest_of whole_of decode_after front_width front_rune
letter_decoded c h =
    let two = outside 0xC2 0xF4 c (omega arith) in
    let low = outside 0xC2 0xDF c (omega arith) in
    let mid = outside 0xE0 0xEF c (omega arith) in
    let top = outside 0xF0 0xF4 c (omega arith) in
    let ascii : nat_lt c 0x80 ≡ true = grind (arith, nat_tests) in
    rw (two, low, mid, top, ascii) refl
