-- Laws of the cut.
use Rattle.std.specs.Prelude.{◌≡◌, ◌≢◌, ◌≤◌, ◌<◌, ◌⊎◌, ◌↔◌, ℕ, List, ◌++◌, length, All}
use Rattle.std.specs.List.{concat}
use Rattle.ninep_types.specs.Limits.{head_size, max_msize}
use Rattle.ninep_cut.specs.declared.cut.Cut.TheVariants.{Whole, More, Broken}
use Rattle.ninep_cut.specs.Cuts.{size_of, IsMessage, cut_of, first_of, behind_first, then_cut, cut_stream}
use Rattle.ninep_cut.specs.Calls.{Call, after_calls, fed}

-- ---- where each answer comes

-- the bytes begin with a whole message
abbrev pub WholeWhere : Type 0
WholeWhere =
    (bytes : List ℕ) → (cut_of bytes ≡ Whole) ↔ ((message : List ℕ)
    × ((rest : List ℕ) × (IsMessage message × (bytes ≡ message ++ rest))))

-- they are fewer than four, or a proper front of a message
abbrev pub MoreWhere : Type 0
MoreWhere =
    (bytes : List ℕ) → (cut_of bytes ≡ More) ↔ ((length bytes < 4)
    ⊎ ((more : List ℕ) × ((0 < length more) × IsMessage (bytes ++ more))))

-- the first four are a size that no message has
abbrev pub BrokenWhere : Type 0
BrokenWhere =
    (bytes : List ℕ) (size : ℕ) → (cut_of bytes ≡ Broken size) ↔ ((4 ≤ length bytes) × (size ≡ size_of bytes)
    × ((size < head_size) ⊎ (max_msize < size)))

-- what is broken stays so, whatever is fed
abbrev pub StaysBroken : Type 0
StaysBroken = (bytes more : List ℕ) (size : ℕ) → cut_of bytes ≡ Broken size → cut_of (bytes ++ more) ≡ Broken size

-- A whole message is the one at the front, whatever stands behind it.
abbrev pub FrontIs : Type 0
FrontIs =
    (message rest : List ℕ) → IsMessage message → (cut_of (message ++ rest) ≡ Whole)
    × (first_of (message ++ rest) ≡ message) × (behind_first (message ++ rest) ≡ rest)

-- ---- the cut is the longest

-- the messages and the rest are the bytes
abbrev pub JoinsBytes : Type 0
JoinsBytes = (bytes : List ℕ) → concat (cut_stream bytes).messages ++ (cut_stream bytes).rest ≡ bytes

-- each is whole, and none stands whole at the front of the rest
abbrev pub AreMessages : Type 0
AreMessages = (bytes : List ℕ) → All IsMessage (cut_stream bytes).messages

-- no message stands whole at the front of the rest
abbrev pub LeavesNone : Type 0
LeavesNone = (bytes : List ℕ) → cut_of (cut_stream bytes).rest ≢ Whole

-- Whole messages from the front are those that the cut begins with, and it goes on with the cut of what is behind them.
abbrev pub BeginsWith : Type 0
BeginsWith =
    (messages : List (List ℕ)) (tail : List ℕ) → All IsMessage messages → cut_stream (concat messages ++ tail)
    ≡ then_cut messages (cut_stream tail)

-- No list of whole messages with which the bytes begin is longer.
abbrev pub IsLongest : Type 0
IsLongest =
    (messages : List (List ℕ)) (tail : List ℕ) → All IsMessage messages → length messages
    ≤ length (cut_stream (concat messages ++ tail)).messages

-- ---- pieces

-- The cut of two pieces begins with the messages of the first, and goes on with the cut of its rest and the second.
abbrev pub JoinsPieces : Type 0
JoinsPieces =
    (bytes more : List ℕ) → cut_stream (bytes ++ more)
    ≡ then_cut (cut_stream bytes).messages (cut_stream ((cut_stream bytes).rest ++ more))

-- Where the rest is broken, nothing more is cut.
abbrev pub CutsNoMore : Type 0
CutsNoMore =
    (bytes more : List ℕ) (size : ℕ) → cut_of (cut_stream bytes).rest ≡ Broken size → cut_stream (bytes ++ more)
    ≡ record { messages = (cut_stream bytes).messages; rest = (cut_stream bytes).rest ++ more }

-- After any calls, what was given and then the cut of what is left is the cut of all bytes fed.
abbrev pub GivesTheCut : Type 0
GivesTheCut =
    (calls : List Call) → cut_stream (fed calls) ≡ then_cut (after_calls calls).given
    (cut_stream (after_calls calls).left)

-- Where no message is left to give, what was given and what is left are that cut.
abbrev pub GivesAll : Type 0
GivesAll =
    (calls : List Call) → cut_of (after_calls calls).left ≢ Whole → cut_stream (fed calls)
    ≡ record { messages = (after_calls calls).given; rest = (after_calls calls).left }
