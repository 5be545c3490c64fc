-- The openings of ports: the messages that wait for each, what it has left, and what a read is given.
use Rattle.std.specs.Prelude.{◌==◌, ◌&&◌, ◌||◌, ℕ, Bool, not, nat_lt, List, [], ◌∷◌, ◌++◌, length, take, drop, Some}
use Rattle.std.specs.Prelude.{None, if◌then◌else◌}
use Rattle.wait_queue.specs.declared.types.Piece.{Piece}

-- messages: those delivered to the opening that no read has begun, the first first
-- carry: what is left of the one that a read has begun
pub record Inbox : Type 0 where
  pub opening : ℕ
  pub port : ℕ
  pub messages : List (List ℕ)
  pub carry : List ℕ

-- whether this is that opening's
abbrev pub is_of : ℕ → Inbox → Bool
is_of opening o = o.opening == opening

-- whether the opening is one of the port
abbrev pub is_on : ℕ → Inbox → Bool
is_on port o = o.port == port

-- an opening of a port with these messages, of which no read has begun any
abbrev pub inbox_with : ℕ → ℕ → List (List ℕ) → Inbox
inbox_with opening port messages = record { opening = opening; port = port; messages = messages; carry = [] }

-- an opening with nothing for its reads
abbrev pub blank : ℕ → ℕ → Inbox
blank opening port = inbox_with opening port []

-- the inbox of an opening; one with nothing in it where the opening isn't there
abbrev pub inbox_of : List Inbox → ℕ → Inbox
inbox_of [] opening = blank opening 0
inbox_of (o ∷ os) opening = if is_of opening o then o else inbox_of os opening

-- one more message, the last
abbrev pub received : List ℕ → Inbox → Inbox
received message o = record o { messages = o.messages ++ message ∷ [] }

-- a copy for an opening of this port
abbrev pub delivered : ℕ → List ℕ → Inbox → Inbox
delivered port message o = if is_on port o then received message o else o

-- whether something is there for a read
abbrev pub has_something : Inbox → Bool
has_something o = nat_lt 0 (length o.carry) || nat_lt 0 (length o.messages)

-- a read of this many bytes has to wait where it asks for some and nothing is there
abbrev pub must_wait : Inbox → ℕ → Bool
must_wait o count = not (count == 0) && not (has_something o)

-- the first bytes of the carry, and where nothing is left, of the first message, which the read takes;
-- messages of ports have no numbers of their own, and a taken one shows the number 0
abbrev pub piece_from : List ℕ → List (List ℕ) → ℕ → Piece
piece_from (b ∷ bs) messages count = record { bytes = take count (b ∷ bs); taken = None }
piece_from [] (m ∷ ms) count = record { bytes = take count m; taken = Some 0 }
piece_from [] [] count = record { bytes = []; taken = None }

-- what a read of this many bytes is given
abbrev pub piece_of : Inbox → ℕ → Piece
piece_of o count = if count == 0 then record { bytes = []; taken = None } else piece_from o.carry o.messages count

-- what a piece of a carry, else of the first message, leaves
abbrev pub after_piece_from : List ℕ → List (List ℕ) → Inbox → ℕ → Inbox
after_piece_from (b ∷ bs) messages o count = record o { carry = drop count (b ∷ bs) }
after_piece_from [] (m ∷ ms) o count = record o { messages = ms; carry = drop count m }
after_piece_from [] [] o count = o

-- what that read leaves
abbrev pub after_piece : Inbox → ℕ → Inbox
after_piece o count = if count == 0 then o else after_piece_from o.carry o.messages o count

-- the inboxes after a read of that many bytes on an opening
abbrev pub after_read : List Inbox → ℕ → ℕ → List Inbox
after_read [] opening count = []
after_read (o ∷ os) opening count =
    if is_of opening o then after_piece o count ∷ os else o ∷ after_read os opening count
