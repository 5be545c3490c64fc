-- Laws of what is written to `send`.
use Rattle.std.specs.Prelude.{◌≡◌, ℕ, List, [], ◌∷◌, ◌++◌, None}
use Rattle.plumb_msg.specs.Grammar.{IsMessage, IsProperFront}
use Rattle.plumb_msg.specs.declared.message.PlumbMsg.{PlumbMsg}
use Rattle.core_scene.specs.declared.deed.Entry.{Entry}
use Rattle.core_scene.specs.Scenes.{SceneState}
use Rattle.core_rules.specs.Messages.{cut_of}
use Rattle.core_rules.specs.Sending.{send_outcome}

-- the bytes are these messages, one after another, and then the rest
abbrev pub AreMessages : List ℕ → List PlumbMsg → List ℕ → Type 0
AreMessages bytes [] rest = bytes ≡ rest
AreMessages bytes (m ∷ ms) rest = (front behind : List ℕ) × (bytes ≡ front ++ behind) × IsMessage front m
    × AreMessages behind ms rest

-- A text is the messages that it is cut into, and the bytes that are left.
abbrev pub MessagesAreRead : Type 0
MessagesAreRead = (text : List ℕ) → AreMessages text (cut_of text).messages (cut_of text).rest

-- What is held is a proper front of a message, or nothing where the write is refused. No byte is a proper front, too.
abbrev pub HeldIsBegun : Type 0
HeldIsBegun = (e : Entry) (text : List ℕ) (s : SceneState) → (send_outcome e text s).refusal ≡ None →
    IsProperFront (send_outcome e text s).held
