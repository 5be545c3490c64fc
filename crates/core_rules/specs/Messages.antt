-- A text cut into plumb messages.
use Rattle.std.specs.Prelude.{ℕ, zero, suc, Bool, true, false, List, [], ◌∷◌, length, drop}
use Rattle.plumb_msg.specs.Reading.{read_of}
use Rattle.plumb_msg.specs.declared.message.PlumbMsg.{PlumbMsg}
use Rattle.plumb_msg.specs.declared.message.PlumbRead.{PlumbRead}
use Rattle.plumb_msg.specs.declared.message.PlumbRead.TheVariants.{Whole, More, Bad}

-- the whole messages from the front, the bytes that are left, and whether these begin no message
pub record Cut : Type 0 where
  pub messages : List PlumbMsg
  pub rest : List ℕ
  pub is_bad : Bool

-- no message, and these bytes
abbrev pub ends : Bool → List ℕ → Cut
ends is_bad bytes = record { messages = []; rest = bytes; is_bad = is_bad }

-- this message, and then what the rest is cut into
abbrev pub then_cut : PlumbMsg → Cut → Cut
then_cut m cut = record cut { messages = m ∷ cut.messages }

-- by what stands at the front
abbrev pub cut_read : (List ℕ → Cut) → List ℕ → PlumbRead → Cut
cut_read cut bytes (Whole m used) = then_cut m (cut (drop used bytes))
cut_read cut bytes More = ends false bytes
cut_read cut bytes Bad = ends true bytes

-- the cut into at most so many messages
unfoldable pub cut_within : ℕ → List ℕ → Cut
cut_within zero bytes = ends false bytes
cut_within (suc n) bytes = cut_read (cut_within n) bytes (read_of bytes)

-- A message has some bytes, so there are no more messages than bytes.
unfoldable pub cut_of : List ℕ → Cut
cut_of bytes = cut_within (length bytes) bytes
