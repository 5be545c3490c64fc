-- How the events of a window are spelled.
use Rattle.std.specs.Prelude.{ℕ, Bool, true, false, ◌||◌, List, [], ◌∷◌, ◌++◌, length, nat_le, Option, Some, None}
use Rattle.std.specs.Prelude.{if◌then◌else◌}
use Rattle.std.specs.Fmt.{decimal}
use Rattle.am_text.specs.Ascii.{newline, space}
use Rattle.am_text.specs.Utf8.{utf8}
use Rattle.am_text.specs.declared.range.Range.{Range}
use Rattle.win_events.specs.Letters.{letter_E, letter_F, letter_K, letter_M, letter_D, letter_d, letter_I, letter_i}
use Rattle.win_events.specs.Letters.{letter_L, letter_l, letter_X, letter_x}
use Rattle.win_events.specs.Limits.{long_text}
use Rattle.win_events.specs.declared.item.Item.{Item}
use Rattle.win_events.specs.declared.item.Origin.{Origin}
use Rattle.win_events.specs.declared.item.Origin.TheVariants.{E, F, K, M}
use Rattle.win_events.specs.declared.item.Sort.{Sort}
use Rattle.win_events.specs.declared.item.Sort.TheVariants.{BodyDel, TagDel, BodyIns, TagIns, BodyLook, TagLook}
use Rattle.win_events.specs.declared.item.Sort.TheVariants.{BodyExec, TagExec}

-- the letter of an origin
abbrev pub origin_letter : Origin → ℕ
origin_letter E = letter_E
origin_letter F = letter_F
origin_letter K = letter_K
origin_letter M = letter_M

-- capitals are the body, small letters the tag
abbrev pub sort_letter : Sort → ℕ
sort_letter BodyDel = letter_D
sort_letter TagDel = letter_d
sort_letter BodyIns = letter_I
sort_letter TagIns = letter_i
sort_letter BodyLook = letter_L
sort_letter TagLook = letter_l
sort_letter BodyExec = letter_X
sort_letter TagExec = letter_x

-- whether an event of this type is a deletion
abbrev pub is_deletion : Sort → Bool
is_deletion BodyDel = true
is_deletion TagDel = true
is_deletion BodyIns = false
is_deletion TagIns = false
is_deletion BodyLook = false
is_deletion TagLook = false
is_deletion BodyExec = false
is_deletion TagExec = false

-- the text that a message shows: none of a deletion, and none of 256 runes and more
abbrev pub shown : Sort → List ℕ → List ℕ
shown sort text = if is_deletion sort || nat_le long_text (length text) then [] else text

-- a number and a blank
abbrev pub field : ℕ → List ℕ
field n = decimal n ++ space ∷ []

-- one message: letters, the range, the flag, the count of the runes shown, these, a newline
unfoldable pub message : Origin → Sort → Range → ℕ → List ℕ → List ℕ
message origin sort range flag text =
    (origin_letter origin ∷ sort_letter sort ∷ []) ++ field range.q0 ++ field range.q1 ++ field flag
    ++ field (length (shown sort text)) ++ utf8 (shown sort text) ++ newline ∷ []

-- the text of the first message: none where the click was expanded
abbrev pub first_text : Item → Option (Range × List ℕ) → List ℕ
first_text item None = item.text
first_text item (Some e) = []

-- the message of the expansion
abbrev pub expansion : Item → Option (Range × List ℕ) → List ℕ
expansion item None = []
expansion item (Some e) = message item.origin item.sort e.0 0 e.1

-- the messages of the argument and of its place
abbrev pub argument : Item → Option (List ℕ × List ℕ) → List ℕ
argument item None = []
argument item (Some a) =
    message item.origin item.sort (record { q0 = 0; q1 = 0 }) 0 a.0
    ++ message item.origin item.sort (record { q0 = 0; q1 = 0 }) 0 a.1

-- all messages of an event
unfoldable pub spelling : Item → List ℕ
spelling item =
    message item.origin item.sort item.range item.flag (first_text item item.expanded)
    ++ expansion item item.expanded ++ argument item item.argument
