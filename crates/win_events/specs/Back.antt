-- Event messages that are written back.
use Rattle.std.specs.Prelude.{◌≡◌, ◌<◌, ◌≤◌, ◌^◌, ℕ, Bool, true, false, ◌&&◌, ◌==◌, List, [], ◌∷◌, ◌++◌, length}
use Rattle.std.specs.Prelude.{replicate, nat_le, Option, Some, None, if◌then◌else◌}
use Rattle.std.specs.Char.{is_ascii_digit}
use Rattle.std.specs.Fmt.{decimal}
use Rattle.am_text.specs.Ascii.{newline, space}
use Rattle.am_text.specs.Number.{number_of}
use Rattle.am_text.specs.declared.range.Range.{Range}
use Rattle.win_events.specs.Letters.{letter_E, letter_F, letter_K, letter_M, letter_L, letter_l, letter_X, letter_x}
use Rattle.win_events.specs.Spelling.{origin_letter, sort_letter}
use Rattle.win_events.specs.declared.item.BackMsg.{BackMsg}
use Rattle.win_events.specs.declared.item.Origin.{Origin}
use Rattle.win_events.specs.declared.item.Origin.TheVariants.{E, F, K, M}
use Rattle.win_events.specs.declared.item.Sort.{Sort}
use Rattle.win_events.specs.declared.item.Sort.TheVariants.{BodyDel, TagDel, BodyIns, TagIns, BodyLook, TagLook}
use Rattle.win_events.specs.declared.item.Sort.TheVariants.{BodyExec, TagExec}

-- whether events of this type can be written back
abbrev pub is_action : Sort → Bool
is_action BodyDel = false
is_action TagDel = false
is_action BodyIns = false
is_action TagIns = false
is_action BodyLook = true
is_action TagLook = true
is_action BodyExec = true
is_action TagExec = true

-- The bytes are the message, with k blanks before its newline.
abbrev pub back_text : BackMsg → ℕ → List ℕ
back_text m k =
    origin_letter m.origin ∷ sort_letter m.sort ∷ (decimal m.range.q0 ++ space
    ∷ (decimal m.range.q1 ++ (replicate k space ++ newline ∷ [])))

-- The bytes are an event message that is written back.
pub record IsBack (bytes : List ℕ) (m : BackMsg) : Type 0 where
  pub action : is_action m.sort ≡ true
  pub ordered : m.range.q0 ≤ m.range.q1
  pub below : m.range.q1 < 2 ^ 64
  pub blanks : ℕ
  pub spelled : bytes ≡ back_text m blanks

-- ---- the message of the bytes

-- the origin that a letter stands for
abbrev pub origin_of : ℕ → Option Origin
origin_of b =
    if b == letter_E then Some E else (if b == letter_F then Some F
    else (if b == letter_K then Some K else (if b == letter_M then Some M else None)))

-- the type of an action that a letter stands for
abbrev pub action_of : ℕ → Option Sort
action_of b =
    if b == letter_X then Some BodyExec else (if b == letter_x then Some TagExec
    else (if b == letter_L then Some BodyLook else (if b == letter_l then Some TagLook else None)))

-- the digits in front
abbrev pub digits : List ℕ → List ℕ
digits [] = []
digits (b ∷ bs) = if is_ascii_digit b then b ∷ digits bs else []

-- what follows the digits in front
abbrev pub after_digits : List ℕ → List ℕ
after_digits [] = []
after_digits (b ∷ bs) = if is_ascii_digit b then after_digits bs else b ∷ bs

-- any blanks, a newline, and no more
abbrev pub is_end : List ℕ → Bool
is_end [] = false
is_end (b ∷ bs) = if b == space then is_end bs else b == newline && length bs == 0

-- a blank, a number, and the end
abbrev pub last_number : List ℕ → Option ℕ
last_number [] = None
last_number (b ∷ bs) = if b == space && is_end (after_digits bs) then number_of (digits bs) else None

-- the range of two numbers, if they are in order
abbrev pub in_order : Option ℕ → Option ℕ → Option Range
in_order None b = None
in_order (Some a) None = None
in_order (Some a) (Some b) = if nat_le a b then Some (record { q0 = a; q1 = b }) else None

-- the range that the bytes tell
abbrev pub range_of : List ℕ → Option Range
range_of bs = in_order (number_of (digits bs)) (last_number (after_digits bs))

-- the message of its parts, if there are all three
abbrev pub message_of : Option Origin → Option Sort → Option Range → Option BackMsg
message_of None s r = None
message_of (Some o) None r = None
message_of (Some o) (Some s) None = None
message_of (Some o) (Some s) (Some r) = Some (record { origin = o; sort = s; range = r })

-- the message that the bytes are
abbrev pub back_of : List ℕ → Option BackMsg
back_of [] = None
back_of (o ∷ []) = None
back_of (o ∷ s ∷ bs) = message_of (origin_of o) (action_of s) (range_of bs)
