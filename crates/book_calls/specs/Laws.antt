-- What holds of the calls of one entry.
use Rattle.std.specs.Prelude.{◌≡◌, ◌≢◌, ℕ, ◌-◌, ◌≤◌, ◌<◌, List, [], ◌++◌, length, take, slice_get, Option, Some, None}
use Rattle.std.specs.Prelude.{◌⊎◌, true}
use Rattle.wait_queue.specs.declared.types.Asker.{Asker}
use Rattle.wait_queue.specs.declared.types.Piece.{Piece}
use Rattle.win_events.specs.Spelling.{spelling}
use Rattle.win_events.specs.declared.item.Item.{Item}
use Rattle.win_events.specs.declared.item.Life.{Life}
use Rattle.win_events.specs.declared.item.Life.TheVariants.{Pending, Taken, Back, Dropped}
use Rattle.wait_queue.specs.Carry.{carry_of}
use Rattle.event_book.specs.WindowFiles.{EventFile, is_enlisted}
use Rattle.event_book.specs.BookState.{BookState, window_of, file_on, recorded_of}
use Rattle.event_book.specs.Laws.{IsLawful, DropsAt, KeepsEnded, last_spelled, spelled_in}
use Rattle.event_book.specs.declared.lives.Recorded.{Recorded}
use Rattle.book_calls.specs.Calls.{Answers, bytes_to, IsByCalls}

-- ---- what an opening gets

-- What an opening of the file was given is what it took, but for what is missing, which is shorter than the spelling of
-- its last item; where it took none, nothing. While it is open that is what it has left.
pub record Gets (given : List ℕ) (f : EventFile) (opening : ℕ) : Type 0 where
  pub missing : List ℕ
  pub joined : given ++ missing ≡ spelled_in opening f.items
  pub proper : length missing ≤ length (last_spelled opening [] f.items) - 1
  pub living : is_enlisted f opening ≡ true → missing ≡ carry_of f.openings opening

-- an end of the whole, and not all of it; where the whole is empty, it is empty
pub record IsProperEnd (rest whole : List ℕ) : Type 0 where
  pub front : List ℕ
  pub joined : front ++ rest ≡ whole
  pub shorter : length rest ≤ length whole - 1

-- ---- who took an item

-- the opening and the entry, where one did
abbrev pub taker : Life → Option (ℕ × ℕ)
taker Pending = None
taker (Taken opening at) = Some (opening, at)
taker (Back opening at back) = Some (opening, at)
taker (Dropped at) = None

-- an item is taken by an opening, at an entry
pub record IsTakenAs (recorded : Option Recorded) (item : Item) (opening at : ℕ) : Type 0 where
  pub life : Life
  pub is : recorded ≡ Some (record { item = item; life = life })
  pub taken : taker life ≡ Some (opening, at)

-- the window's item with this number is this one, and the opening took it at this entry
abbrev pub WasTaken : BookState → ℕ → ℕ → Item → ℕ → ℕ → Type 0
WasTaken s window number item opening at = IsTakenAs (recorded_of s window number) item opening at

-- an answer on the opening that takes the item with this number, and gives a front of its spelling, which isn't empty
pub record HasItsAnswer (answers : Answers) (number : ℕ) (item : Item) (opening : ℕ) : Type 0 where
  pub place : ℕ
  pub asker : Asker
  pub piece : Piece
  pub is : slice_get answers place ≡ Some (asker, piece)
  pub on : asker.opening ≡ opening
  pub takes : piece.taken ≡ Some number
  pub front : piece.bytes ≡ take asker.count (spelling item)
  pub some : piece.bytes ≢ []

-- ---- the laws

-- a lawful book in which all was done before this entry
pub record IsBefore (at : ℕ) (s : BookState) : Type 0 where
  pub lawful : IsLawful s
  pub earlier : s.latest < at

-- what the calls of one entry make of a book
pub record IsLawfulEntry (at : ℕ) (old new : BookState) (answers : Answers) : Type 0 where
  pub lawful : IsLawful new
  pub latest : new.latest ≤ at
  pub drops : DropsAt old new at
  pub stays : KeepsEnded old new
  pub gets : (opening : ℕ) (given : List ℕ) → Gets given (file_on old opening) opening
      → Gets (given ++ bytes_to opening answers) (file_on new opening) opening
  pub takes : (window number opening entry : ℕ) (item : Item) → WasTaken new window number item opening entry
      → WasTaken old window number item opening entry ⊎ ((entry ≡ at) × HasItsAnswer answers number item opening)
  pub windows : (window number opening entry : ℕ) (item : Item) → WasTaken new window number item opening entry
      → window_of new.owners opening ≡ window

-- so it is with any calls of an entry
abbrev pub CallsAreLawful : Type 0
CallsAreLawful =
    (at : ℕ) (old new : BookState) (answers : Answers) → IsBefore at old → IsByCalls at old new answers
    → IsLawfulEntry at old new answers
