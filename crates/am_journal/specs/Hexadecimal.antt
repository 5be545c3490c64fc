-- Small hexadecimal.
use Rattle.std.specs.Prelude.{ℕ, ◌+◌, ◌-◌, ◌*◌, ◌/◌, ◌%◌, List, [], ◌∷◌, Option, Some, None, nat_lt, if◌then◌else◌}
use Rattle.std.specs.Int.{is_in_range}
use Rattle.std.specs.List.{flat_map}
use Rattle.am_text.specs.Ascii.{digit_0, digit_9}

-- `a`, the digit of 10
abbrev pub letter_a : ℕ
letter_a = 97

-- `f`, the digit of 15
abbrev pub letter_f : ℕ
letter_f = 102

-- ten before `a`: a letter is its value behind this
abbrev pub below_letters : ℕ
below_letters = 87

-- the small digit of a value below 16
abbrev pub hex_digit : ℕ → ℕ
hex_digit n = if nat_lt n 10 then digit_0 + n else below_letters + n

-- the two digits of a byte
abbrev pub hex_byte : ℕ → List ℕ
hex_byte b = hex_digit (b / 16) ∷ hex_digit (b % 16) ∷ []

-- two digits for each byte
unfoldable pub hex_of : List ℕ → List ℕ
hex_of bytes = flat_map hex_byte bytes

-- the value of a digit; capitals have none
abbrev pub digit_value : ℕ → Option ℕ
digit_value b = if is_in_range digit_0 digit_9 b then Some (b - digit_0) else
    (if is_in_range letter_a letter_f b then Some (b - below_letters) else None)

-- the byte of two digits
abbrev pub pair_value : Option ℕ → Option ℕ → Option ℕ
pair_value None low = None
pair_value (Some high) None = None
pair_value (Some high) (Some low) = Some (high * 16 + low)

-- the byte that two digits spell
abbrev pub byte_at : ℕ → ℕ → Option ℕ
byte_at a b = pair_value (digit_value a) (digit_value b)

-- a byte and those after it, if all are spelled
abbrev pub then_bytes : Option ℕ → Option (List ℕ) → Option (List ℕ)
then_bytes None rest = None
then_bytes (Some b) None = None
then_bytes (Some b) (Some rest) = Some (b ∷ rest)

-- the bytes that the digits spell, if they stand in pairs
unfoldable pub bytes_of_hex : List ℕ → Option (List ℕ)
bytes_of_hex [] = Some []
bytes_of_hex (a ∷ []) = None
bytes_of_hex (a ∷ b ∷ rest) = then_bytes (byte_at a b) (bytes_of_hex rest)
