-- What one connection may send.
use Rattle.std.specs.Prelude.{◌≡◌, ℕ, ◌+◌, ◌-◌, Bool, ◌&&◌, List, length, nat_lt, nat_le, if◌then◌else◌}
use Rattle.std.specs.List.{concat}
use Rattle.am_serve.specs.declared.budget.Budget.{Budget}

-- the most messages that a connection may send
abbrev pub message_limit : ℕ
message_limit = 1000000

-- the most bytes that they may have in all
abbrev pub byte_limit : ℕ
byte_limit = 67108864

-- whether these messages are no more than that, and have no more bytes
abbrev pub fits_budget : List (List ℕ) → Bool
fits_budget messages = nat_le (length messages) message_limit && nat_le (length (concat messages)) byte_limit

-- ---- what is left of it

-- nothing of a turn was used
abbrev pub whole : Budget
whole = record { messages = message_limit; bytes = byte_limit }

-- whether a message of so many bytes may still come
abbrev pub has_message : Budget → ℕ → Bool
has_message b len = nat_lt 0 b.messages && nat_le len b.bytes

-- what is left behind a message; all of it where the message may not come
abbrev pub after_message : Budget → ℕ → Budget
after_message b len = if has_message b len then record { messages = b.messages - 1; bytes = b.bytes - len } else b

-- this is left behind these messages
pub record IsLeft (b : Budget) (given : List (List ℕ)) : Type 0 where
  pub messages : b.messages + length given ≡ message_limit
  pub bytes : b.bytes + length (concat given) ≡ byte_limit
