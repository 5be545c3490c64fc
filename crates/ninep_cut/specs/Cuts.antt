-- How a stream of bytes is cut into whole messages by their size fields.
use Rattle.std.specs.Prelude.{◌≡◌, ◌≤◌, ℕ, zero, suc, Bool, true, false, ◌&&◌, List, [], ◌∷◌, ◌++◌, length, take, drop}
use Rattle.std.specs.Prelude.{nat_lt, nat_le, if◌then◌else◌}
use Rattle.std.specs.Int.{w32, from_le_bytes}
use Rattle.ninep_cut.specs.declared.cut.Cut.{Cut}
use Rattle.ninep_types.specs.Limits.{head_size, max_msize}
use Rattle.ninep_cut.specs.declared.cut.Cut.TheVariants.{Whole, More, Broken}

-- the size that the first four bytes tell
unfoldable pub size_of : List ℕ → ℕ
size_of bytes = from_le_bytes w32 (take 4 bytes)

-- a message has 7 to 65,560 bytes
abbrev pub is_lawful : ℕ → Bool
is_lawful size = nat_le head_size size && nat_le size max_msize

-- The bytes are one whole message: as many as their size field tells, and that is a lawful size.
pub record IsMessage (bytes : List ℕ) : Type 0 where
  pub told : size_of bytes ≡ length bytes
  pub least : head_size ≤ length bytes
  pub most : length bytes ≤ max_msize

-- what stands at the front: a whole message, less than a message, or a size that no message has
unfoldable pub cut_of : List ℕ → Cut
cut_of bytes =
    if nat_lt (length bytes) 4 then More
    else (if is_lawful (size_of bytes) then (if nat_lt (length bytes) (size_of bytes) then More else Whole)
    else Broken (size_of bytes))

-- whether a whole message stands at the front
abbrev pub is_whole : Cut → Bool
is_whole Whole = true
is_whole More = false
is_whole (Broken size) = false

-- the message that stands whole at the front, and the bytes behind it
abbrev pub first_of : List ℕ → List ℕ
first_of bytes = take (size_of bytes) bytes

-- the bytes behind the message that stands whole at the front
abbrev pub behind_first : List ℕ → List ℕ
behind_first bytes = drop (size_of bytes) bytes

-- ---- the cut of a stream

-- the whole messages from the front, and the bytes that are left
pub record Stream : Type 0 where
  pub messages : List (List ℕ)
  pub rest : List ℕ

-- these messages, and then what a stream is cut into
abbrev pub then_cut : List (List ℕ) → Stream → Stream
then_cut messages stream = record { messages = messages ++ stream.messages; rest = stream.rest }

-- the cut into at most so many messages
unfoldable pub cut_within : ℕ → List ℕ → Stream
cut_within zero bytes = record { messages = []; rest = bytes }
cut_within (suc n) bytes =
    if is_whole (cut_of bytes) then then_cut (first_of bytes ∷ []) (cut_within n (behind_first bytes))
    else record { messages = []; rest = bytes }

-- A message has more than one byte, so there are no more messages than bytes.
unfoldable pub cut_stream : List ℕ → Stream
cut_stream bytes = cut_within (length bytes) bytes

-- ---- what an answer says

-- The first message of the cut is taken from the front.
pub record TakesFirst (before after given : List ℕ) : Type 0 where
  pub first : given ≡ first_of before
  pub behind : after ≡ behind_first before
  pub front : before ≡ given ++ after
  pub message : IsMessage given
  pub stream : cut_stream before ≡ then_cut (given ∷ []) (cut_stream after)

-- There is no message to take, and nothing is changed.
pub record TakesNone (before after had given : List ℕ) : Type 0 where
  pub stays : after ≡ before
  pub same : given ≡ had
  pub stream : cut_stream before ≡ record { messages = []; rest = before }

-- what is taken with each answer: of the bytes before, those after are left, and what was had becomes what is given
abbrev pub Takes : Cut → List ℕ → List ℕ → List ℕ → List ℕ → Type 0
Takes Whole before after had given = TakesFirst before after given
Takes More before after had given = TakesNone before after had given
Takes (Broken size) before after had given = TakesNone before after had given
