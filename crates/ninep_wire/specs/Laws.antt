-- Laws of the spellings.
-- PrefixFree: where one spelling begins another, no bytes follow it and the two messages are one.
-- ReadAgain: reading the spelling of a message gives the message.
-- HasSize: how many bytes a spelling has.
use Rattle.std.specs.Prelude.{◌≡◌, ℕ, List, [], ◌++◌, length, Ok}
use Rattle.ninep_types.specs.declared.message.TMsg.{TMsg}
use Rattle.ninep_types.specs.declared.message.RMsg.{RMsg}
use Rattle.ninep_types.specs.Reading.{t_of, r_of}
use Rattle.ninep_types.specs.Spelling.{spelling_t, spelling_r, size_t, size_r, Fits_t, Fits_r, InRange_t, InRange_r}

-- ---- messages to the server

-- no spelling is a proper front of another
abbrev pub PrefixFree_t : Type 0
PrefixFree_t =
    (a b : TMsg) (rest : List ℕ) → Fits_t a → InRange_t a → Fits_t b → InRange_t b → spelling_t a ++ rest ≡ spelling_t b
    → (rest ≡ []) × (a ≡ b)

-- what is written is read again
abbrev pub ReadAgain_t : Type 0
ReadAgain_t = (m : TMsg) → Fits_t m → InRange_t m → t_of (spelling_t m) ≡ Ok m

-- how many bytes a spelling has
abbrev pub HasSize_t : Type 0
HasSize_t = (m : TMsg) → length (spelling_t m) ≡ size_t m.body

-- ---- messages from the server

-- no spelling is a proper front of another
abbrev pub PrefixFree_r : Type 0
PrefixFree_r =
    (a b : RMsg) (rest : List ℕ) → Fits_r a → InRange_r a → Fits_r b → InRange_r b → spelling_r a ++ rest ≡ spelling_r b
    → (rest ≡ []) × (a ≡ b)

-- what is written is read again
abbrev pub ReadAgain_r : Type 0
ReadAgain_r = (m : RMsg) → Fits_r m → InRange_r m → r_of (spelling_r m) ≡ Ok m

-- how many bytes a spelling has
abbrev pub HasSize_r : Type 0
HasSize_r = (m : RMsg) → length (spelling_r m) ≡ size_r m.body
