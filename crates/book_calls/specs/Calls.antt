-- The calls that an entry makes of a book: first those that make something, then those that end something.
use Rattle.std.specs.Prelude.{◌≡◌, ◌==◌, ℕ, ◌<◌, List, [], ◌∷◌, ◌++◌, length, Option, Some, None, if◌then◌else◌}
use Rattle.wait_queue.specs.declared.types.Asker.{Asker}
use Rattle.wait_queue.specs.declared.types.Piece.{Piece}
use Rattle.win_events.specs.declared.item.Item.{Item}
use Rattle.event_book.specs.BookState.{BookState, IsOpen, IsLiving, IsTaken, read_waits, piece_for, served_of}
use Rattle.event_book.specs.BookState.{after_add, after_put, after_ask, after_serve, after_written, after_cancel}
use Rattle.event_book.specs.BookState.{after_leave, after_delete}
use Rattle.wait_queue.specs.Limits.{max_openings}

-- An opening is added to a window, an item is put into it, a read is asked, or the oldest waiting read that
-- can be answered is served.
pub data Making : Type 0 where
  Add : ℕ → Making
  Put : ℕ → Item → Making
  Ask : Asker → Making
  Serve : Making

-- An item of a window is written back, a read that waits is cancelled, an opening is left, or a window is deleted.
pub data Ending : Type 0 where
  Written : ℕ → ℕ → Ending
  Cancel : ℕ → ℕ → Ending
  Leave : ℕ → Ending
  Delete : ℕ → Ending

-- ---- what makes something, at this entry

-- a call may be made
abbrev pub CanMake : BookState → Making → Type 0
CanMake s (Add window) = length s.owners < max_openings
CanMake s (Put window item) = IsOpen s window
CanMake s (Ask r) = IsLiving s r.opening
CanMake s Serve = Unit {0}

-- the event files after a call
abbrev pub made : ℕ → BookState → Making → BookState
made at s (Add window) = after_add s window
made at s (Put window item) = after_put s window item
made at s (Ask r) = after_ask s r at
made at s Serve = after_serve s at

-- reads that are answered, each with what it is given
abbrev pub Answers : Type 0
Answers = List (Asker × Piece)

-- the answer, if there is one
abbrev pub if_answered : Option (Asker × Piece) → Answers
if_answered None = []
if_answered (Some answer) = answer ∷ []

-- the answers that a call gives
abbrev pub given : BookState → Making → Answers
given s (Add window) = []
given s (Put window item) = []
given s (Ask r) = if read_waits s r then [] else (r, piece_for s r) ∷ []
given s Serve = if_answered (served_of s)

-- each call may be made where it comes
unfoldable pub CanMakeAll : ℕ → BookState → List Making → Type 0
CanMakeAll at s [] = Unit {0}
CanMakeAll at s (c ∷ cs) = CanMake s c × CanMakeAll at (made at s c) cs

-- the event files after calls
unfoldable pub all_made : ℕ → BookState → List Making → BookState
all_made at s [] = s
all_made at s (c ∷ cs) = all_made at (made at s c) cs

-- the answers that calls give
unfoldable pub all_given : ℕ → BookState → List Making → Answers
all_given at s [] = []
all_given at s (c ∷ cs) = given s c ++ all_given at (made at s c) cs

-- the joined bytes of those answers that are on an opening
abbrev pub bytes_to : ℕ → Answers → List ℕ
bytes_to opening [] = []
bytes_to opening (answer ∷ answers) =
    (if answer.0.opening == opening then answer.1.bytes else []) ++ bytes_to opening answers

-- ---- what ends something, at this entry

-- a call may be made
abbrev pub CanEnd : BookState → Ending → Type 0
CanEnd s (Written window number) = IsTaken s window number
CanEnd s (Cancel conn tag) = Unit {0}
CanEnd s (Leave opening) = IsLiving s opening
CanEnd s (Delete window) = Unit {0}

-- the event files after a call
abbrev pub ended : ℕ → BookState → Ending → BookState
ended at s (Written window number) = after_written s window number at
ended at s (Cancel conn tag) = after_cancel s conn tag
ended at s (Leave opening) = after_leave s opening at
ended at s (Delete window) = after_delete s window at

-- each call may be made where it comes
unfoldable pub CanEndAll : ℕ → BookState → List Ending → Type 0
CanEndAll at s [] = Unit {0}
CanEndAll at s (c ∷ cs) = CanEnd s c × CanEndAll at (ended at s c) cs

-- the event files after calls
unfoldable pub all_ended : ℕ → BookState → List Ending → BookState
all_ended at s [] = s
all_ended at s (c ∷ cs) = all_ended at (ended at s c) cs

-- ---- both

-- The new book comes of the old one by calls alone at this entry, and these are the answers that they give, in order.
pub record IsByCalls (at : ℕ) (old new : BookState) (answers : Answers) : Type 0 where
  pub makes : List Making
  pub ends : List Ending
  pub can_make : CanMakeAll at old makes
  pub can_end : CanEndAll at (all_made at old makes) ends
  pub gives : all_given at old makes ≡ answers
  pub book : all_ended at (all_made at old makes) ends ≡ new
