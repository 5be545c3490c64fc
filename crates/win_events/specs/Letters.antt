-- Letters of event messages.
use Rattle.std.specs.Prelude.{ℕ}

-- ---- origins

-- `E`
abbrev pub letter_E : ℕ
letter_E = 69

-- `F`
abbrev pub letter_F : ℕ
letter_F = 70

-- `K`
abbrev pub letter_K : ℕ
letter_K = 75

-- `M`
abbrev pub letter_M : ℕ
letter_M = 77

-- ---- types: capitals are the body, small letters the tag

-- `D`
abbrev pub letter_D : ℕ
letter_D = 68

-- `d`
abbrev pub letter_d : ℕ
letter_d = 100

-- `I`
abbrev pub letter_I : ℕ
letter_I = 73

-- `i`
abbrev pub letter_i : ℕ
letter_i = 105

-- `L`
abbrev pub letter_L : ℕ
letter_L = 76

-- `l`
abbrev pub letter_l : ℕ
letter_l = 108

-- `X`
abbrev pub letter_X : ℕ
letter_X = 88

-- `x`
abbrev pub letter_x : ℕ
letter_x = 120
