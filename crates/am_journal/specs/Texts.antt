-- Lines that are written for the lines of a transcript.
use Rattle.std.specs.Prelude.{ℕ, List, [], ◌∷◌, ◌++◌, codes}
use Rattle.am_text.specs.Ascii.{newline, space}
use Rattle.am_journal.specs.declared.event.Why.{Why}
use Rattle.am_journal.specs.declared.event.Why.TheVariants as why
use Rattle.am_journal.specs.Hexadecimal.{hex_of}
use Rattle.am_text.specs.Fields.{around}

-- the line of a message to a connection
unfoldable pub reply_text : ℕ → List ℕ → List ℕ
reply_text c message = around (codes "reply ") c (space ∷ []) ++ hex_of message ++ newline ∷ []

-- the line for an input line that is refused: its number, and the reason's word
unfoldable pub refused_text : ℕ → List ℕ → List ℕ
refused_text k reason = around (codes "refused ") k (space ∷ []) ++ reason ++ newline ∷ []

-- the word of a reason
abbrev pub word_of : Why → List ℕ
word_of why.Conn = codes "conn"
word_of why.Dialed = codes "dialed"
word_of why.Ended = codes "ended"
word_of why.Size = codes "size"
word_of why.Tag = codes "tag"
word_of why.Replies = codes "replies"
word_of why.Nothing = codes "nothing"
word_of why.Window = codes "window"
word_of why.Range = codes "range"
word_of why.Windows = codes "windows"
word_of why.Length = codes "length"
word_of why.Tree = codes "tree"
