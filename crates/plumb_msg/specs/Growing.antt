-- Messages that are begun, and that grow.
use Rattle.std.specs.Prelude.{◌≡◌, ◌≤◌, ℕ, Bool, true, false, ◌&&◌, List, ◌++◌, length, drop, nat_lt, Option, Some}
use Rattle.std.specs.Prelude.{None, is_some, if◌then◌else◌}
use Rattle.am_text.specs.Lines.{after_line}
use Rattle.plumb_msg.specs.Attributes.{scan, start}
use Rattle.plumb_msg.specs.Reading.{read_of}
use Rattle.plumb_msg.specs.Texts.{has_newline, is_text_front}
use Rattle.plumb_msg.specs.declared.begun.Begun.{Begun}
use Rattle.plumb_msg.specs.declared.begun.Begun.TheVariants.{Unknown, Text, Attrs, Data}
use Rattle.plumb_msg.specs.declared.message.PlumbRead.TheVariants.{More}

-- what stands behind the first line, where its newline is there
abbrev pub behind_line : List ℕ → Option (List ℕ)
behind_line bs = if has_newline bs then Some (after_line bs) else None

-- a line of text that isn't whole
abbrev pub is_in_line : List ℕ → Bool
is_in_line bs = if has_newline bs then false else is_text_front bs

-- whether a text shows itself to be a proper front of a message by what stands behind the places
abbrev pub shows_more : Begun → List ℕ → Bool
shows_more Unknown text = false
shows_more (Text at) text = is_in_line (drop at text)
shows_more (Attrs at from memo) text = is_in_line (drop at text) && is_some (scan start (drop from text))
shows_more (Data at size) text = nat_lt (length (drop at text)) size

-- the places stand in the text
abbrev pub AreWithin : Begun → List ℕ → Type 0
AreWithin Unknown text = Unit {0}
AreWithin (Text at) text = at ≤ length text
AreWithin (Attrs at from memo) text = (at ≤ length text) × (from ≤ length text)
AreWithin (Data at size) text = at ≤ length text

-- A text that goes on from this one, and shows itself to be a proper front of a message, is one.
pub record IsBegun (b : Begun) (text : List ℕ) : Type 0 where
  pub within : AreWithin b text
  pub more : (more : List ℕ) → shows_more b (text ++ more) ≡ true → read_of (text ++ more) ≡ More
