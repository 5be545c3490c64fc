-- What a line that is read spells.
use Rattle.std.proofs.Common.{◌≡◌, ℕ, List, Some}
use Rattle.am_journal.specs.declared.event.Event.{Event}
use Rattle.am_journal.specs.Lawful.{IsLawful, IsInRange}
use Rattle.am_journal.specs.Line.{line_text}

-- the bytes are the line of this event, which is lawful
pub record Found (bs : List ℕ) (e : Event) : Type 0 where
  pub lawful : IsLawful e
  pub in_range : IsInRange e
  pub spelled : bs ≡ line_text e

pub event_is : (a b : Event) → Some a ≡ Some b → a ≡ b
event_is a b e = cc
