-- What holds of the items of event files, over every journal.
use Rattle.std.specs.Prelude.{◌≡◌, ◌≢◌, ℕ, ◌+◌, true, false, List, [], ◌∷◌, ◌++◌, length, map, take, slice_get, Option}
use Rattle.std.specs.Prelude.{Some, ◌⊎◌}
use Rattle.win_events.specs.Spelling.{spelling}
use Rattle.win_events.specs.declared.item.Item.{Item}
use Rattle.win_events.specs.declared.item.Life.TheVariants.{Pending}
use Rattle.wait_queue.specs.declared.types.Asker.{Asker}
use Rattle.wait_queue.specs.declared.types.Piece.{Piece}
use Rattle.event_book.specs.BookState.{BookState, file_on, window_of, is_open_window, IsLiving, recorded_of}
use Rattle.event_book.specs.Laws.{WindowOrder, IsDropped, KeepsEnded, last_spelled, spelled, carry}
use Rattle.book_calls.specs.Calls.{Answers, IsByCalls}
use Rattle.book_calls.specs.Laws.{IsProperEnd, WasTaken}
use Rattle.am_journal.specs.declared.event.Event.{Event}
use Rattle.acme_core.specs.Run.{run}
use Rattle.core_laws.specs.Saying.{said_after}
use Rattle.event_laws.specs.Rreads.{Rread, rreads_of, rreads, delivered}
use Rattle.am_journal.specs.declared.event.Journal.{Journal}
use Rattle.am_journal.specs.Journal.{longer}
use Rattle.core_laws.specs.Fronts.{followed, IsFront}

-- the items, openings and waiting reads of all event files after a journal
abbrev pub book_after : Journal → BookState
book_after journal = (run journal).scene.book

-- ---- calls of the book alone

-- the Rread that answers a read
abbrev pub rread_to : ℕ → Asker × Piece → Rread
rread_to at answer = record { at = at; opening = answer.0.opening; bytes = answer.1.bytes }

-- What an entry does to event files it does by calls of the book, and its Rreads on openings are
-- what these give, in order.
pub record IsByBook (before : Journal) (e : Event) : Type 0 where
  pub answers : Answers
  pub calls : IsByCalls (length before.events + 1) (book_after before) (book_after (longer before e)) answers
  pub tells : map (rread_to (length before.events + 1)) answers
      ≡ rreads_of (length before.events + 1) (said_after before e)

abbrev pub EntriesAreCalls : Journal → Type 0
EntriesAreCalls journal = (before : Journal) (behind : List Event) (e : Event) → followed before (e ∷ behind) ≡ journal
    → IsByBook before e

-- ---- window order

abbrev pub IsPending : BookState → ℕ → ℕ → Item → Type 0
IsPending s window number item = recorded_of s window number ≡ Some (record { item = item; life = Pending })

-- The life of the item names this entry, behind which the event file of its window is open no more. It was open before,
-- if the item was pending then.
pub record IsDroppedBy (before : Journal) (e : Event) (window number : ℕ) (item : Item) (at : ℕ) : Type 0 where
  pub entry : at ≡ length before.events + 1
  pub closed : is_open_window (book_after (longer before e)) window ≡ false
  pub was_open : IsPending (book_after before) window number item → is_open_window (book_after before) window ≡ true

-- What is dropped behind an entry was so before, or this entry dropped it.
abbrev pub DroppedAtCloses : Journal → Type 0
DroppedAtCloses journal =
    (before : Journal) (behind : List Event) (e : Event) → followed before (e ∷ behind) ≡ journal
    → (window number at : ℕ) (item : Item)
    → IsDropped (book_after (longer before e)) window number item at
    → IsDropped (book_after before) window number item at ⊎ IsDroppedBy before e window number item at

-- What was written back or dropped stays so, with the same entries, whatever comes.
abbrev pub EndedLivesStay : Journal → Type 0
EndedLivesStay journal =
    (before : Journal) → IsFront before journal → KeepsEnded (book_after before) (book_after journal)

-- ---- what an opening gets

-- What an opening was given is what it took, but for what is missing: a proper end of the spelling of its last item;
-- nothing where it took none. While it is open that is what it has left, and is still to come.
pub record GetsItsItems (journal : Journal) (opening : ℕ) : Type 0 where
  pub missing : List ℕ
  pub joined : delivered journal opening ++ missing ≡ spelled (book_after journal) opening
  pub proper : IsProperEnd missing (last_spelled opening [] (file_on (book_after journal) opening).items)
  pub living : IsLiving (book_after journal) opening → missing ≡ carry (book_after journal) opening

-- an opening takes items of its own window alone, those of which its spellings are joined
abbrev pub TakesInItsWindow : Journal → Type 0
TakesInItsWindow journal =
    (window number opening at : ℕ) (item : Item) → WasTaken (book_after journal) window number item opening at
    → window_of (book_after journal).owners opening ≡ window

-- ---- each item by an Rread of its own

-- the Rread was made at that entry on that opening, and its data is a front of the item's spelling, which isn't empty
pub record IsItsRread (x : Rread) (item : Item) (opening at : ℕ) : Type 0 where
  pub entry : x.at ≡ at
  pub on : x.opening ≡ opening
  pub count : ℕ
  pub front : x.bytes ≡ take count (spelling item)
  pub some : x.bytes ≢ []

-- an Rread, and the window and the number of the item that it takes, where it takes one
pub record Telling : Type 0 where
  pub rread : Rread
  pub takes : Option (ℕ × ℕ)

-- at this place the Rread that takes the item
pub record HasItsRread (told : List Telling) (window number : ℕ) (item : Item) (opening at : ℕ) : Type 0 where
  pub place : ℕ
  pub rread : Rread
  pub is : slice_get told place ≡ Some (record { rread = rread; takes = Some (window, number) })
  pub its : IsItsRread rread item opening at

-- Each item that was taken has an Rread of the journal. An Rread takes one item at most, so no two items have the same.
pub record EachHasItsOwn (journal : Journal) : Type 0 where
  pub told : List Telling
  pub all : map (λ t. t.rread) told ≡ rreads journal
  pub taken : (window number opening at : ℕ) (item : Item) → WasTaken (book_after journal) window number item opening at
      → HasItsRread told window number item opening at

-- ---- all of them

pub record EventLaws (journal : Journal) : Type 0 where
  pub calls : EntriesAreCalls journal
  pub order : WindowOrder (book_after journal)
  pub drops : DroppedAtCloses journal
  pub stays : EndedLivesStay journal
  pub gets : (opening : ℕ) → GetsItsItems journal opening
  pub windows : TakesInItsWindow journal
  pub own : EachHasItsOwn journal

abbrev pub EventsAreLawful : Type 0
EventsAreLawful = (journal : Journal) → EventLaws journal
