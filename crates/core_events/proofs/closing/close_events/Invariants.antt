use Rattle.std.proofs.Common.{◌≡◌, length}
use Rattle.am_text.specs.Twice.{both}
use Rattle.core_events.specs.Closing.{closed_with}
use Rattle.core_events.specs.Sound.{IsSound}
use Rattle.core_events.proofs.closing.close_events.Given as goal

-- the windows that are left, closed in the book as it is, make what all make
abbrev pub invariant-loop-window : goal.invariant-loop-window
invariant-loop-window l = record {
  steady : l.book ≡ both l.book.present;
  closed : closed_with l.at l.book.present l.rest ≡ closed_with l.at l.fn.book.present l.windows;
  sound : IsSound l.at l.book.present;
}

abbrev pub decreases-loop-window : goal.decreases-loop-window
decreases-loop-window l = length l.rest
