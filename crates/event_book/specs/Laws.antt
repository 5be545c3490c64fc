-- What holds of every book, and what each call does to what an opening was given.
use Rattle.std.specs.Prelude.{◌≡◌, ◌≢◌, ◌==◌, ◌≤◌, ◌-◌, ℕ, suc, Bool, true, false, not, List, [], ◌∷◌, ◌++◌, length}
use Rattle.std.specs.Prelude.{take, Option, Some, None, IfSome, Ok, if◌then◌else◌, ◌⊎◌}
use Rattle.std.specs.List.{Contains, list_all, list_any}
use Rattle.win_events.specs.Spelling.{spelling}
use Rattle.win_events.specs.declared.item.Item.{Item}
use Rattle.win_events.specs.declared.item.BackMsg.{BackMsg}
use Rattle.win_events.specs.declared.item.Life.{Life}
use Rattle.win_events.specs.declared.item.Life.TheVariants.{Pending, Taken, Back, Dropped}
use Rattle.wait_queue.specs.Carry.{OpenCarry, carry_of}
use Rattle.wait_queue.specs.Laws.{AddsNone, AddsOnly}
use Rattle.wait_queue.specs.Reads.{is_read}
use Rattle.wait_queue.specs.declared.types.Asker.{Asker}
use Rattle.wait_queue.specs.declared.types.Piece.{Piece}
use Rattle.wait_queue.specs.declared.types.Asked.TheVariants.{Now}
use Rattle.event_book.specs.Lives.{pends}
use Rattle.event_book.specs.Finding.{fits}
use Rattle.event_book.specs.WindowFiles.{EventFile, WindowFile, has_opening, file_of}
use Rattle.event_book.specs.BookState.{BookState, owner_of, file_on, is_open_window, is_living, IsLiving, recorded_of}
use Rattle.event_book.specs.BookState.{item_of, IsTaken, found_of, window_of, next_opening, after_add, after_put}
use Rattle.event_book.specs.BookState.{read_waits, piece_for, after_answer, asked_of, after_ask, next_of, served_of}
use Rattle.event_book.specs.BookState.{after_serve, after_written, after_cancel, after_leave, after_delete}
use Rattle.event_book.specs.declared.lives.Recorded.{Recorded}

-- ---- window order

-- the entry at which it was taken or dropped
abbrev pub settled_at : Life → Option ℕ
settled_at Pending = None
settled_at (Taken opening at) = Some at
settled_at (Back opening at back) = Some at
settled_at (Dropped at) = Some at

-- what holds where no entry settled it; else the entry is from low to high, and this holds of it
abbrev pub Follows : Option ℕ → ℕ → ℕ → Type 0 → (ℕ → Type 0) → Type 0
Follows None low high pending settled = pending
Follows (Some at) low high pending settled = (low ≤ at) × (at ≤ high) × settled at

-- no item was taken or dropped
abbrev pub all_pending : List Recorded → Bool
all_pending es = list_all pends es

-- The pending items are a suffix. Along the others the entry never falls; it's from low to high.
abbrev pub InOrder : ℕ → ℕ → List Recorded → Type 0
InOrder low high [] = Unit {0}
InOrder low high (e ∷ es) = Follows (settled_at e.life) low high (all_pending es ≡ true) (λ at. InOrder at high es)

-- each item was taken or dropped
abbrev pub none_pending : List Recorded → Bool
none_pending es = list_all (λ e. not (pends e)) es

-- in each window; and an item is pending only while the event file is open
abbrev pub WindowOrder : BookState → Type 0
WindowOrder s =
    (window : ℕ) → InOrder 0 s.latest (file_of s.files window).items
    × (is_open_window s window ≡ false → none_pending (file_of s.files window).items ≡ true)

-- ---- what a fid gets

-- whether the opening took the item
abbrev pub took : ℕ → Life → Bool
took opening Pending = false
took opening (Taken by at) = by == opening
took opening (Back by at back) = by == opening
took opening (Dropped at) = false

-- the joined spellings of the items that the opening took
abbrev pub spelled_in : ℕ → List Recorded → List ℕ
spelled_in opening [] = []
spelled_in opening (e ∷ es) =
    if took opening e.life then spelling e.item ++ spelled_in opening es else spelled_in opening es

-- the spelling of the last of them; this one where there is none
abbrev pub last_spelled : ℕ → List ℕ → List Recorded → List ℕ
last_spelled opening last [] = last
last_spelled opening last (e ∷ es) = last_spelled opening (if took opening e.life then spelling e.item else last) es

-- the messages of the items that an opening took, in order
abbrev pub spelled : BookState → ℕ → List ℕ
spelled s opening = spelled_in opening (file_on s opening).items

-- what an opening has left
abbrev pub carry : BookState → ℕ → List ℕ
carry s opening = carry_of (file_on s opening).openings opening

-- what the opening was given: what it took, without what it has left
abbrev pub given_to : BookState → ℕ → List ℕ
given_to s opening = take (length (spelled s opening) - length (carry s opening)) (spelled s opening)

-- ---- the invariant of a book

-- openings of this window
abbrev pub IsOwned : List ℕ → ℕ → ℕ → Type 0
IsOwned owners window opening = owner_of owners opening ≡ Some window

-- these openings are of this window
abbrev pub AllOwned : List ℕ → ℕ → List OpenCarry → Type 0
AllOwned owners window [] = Unit {0}
AllOwned owners window (c ∷ cs) = IsOwned owners window c.opening × AllOwned owners window cs

-- the opening that a life names
abbrev pub named : Life → Option ℕ
named Pending = None
named (Taken opening at) = Some opening
named (Back opening at back) = Some opening
named (Dropped at) = None

-- the openings that these items name are of this window
abbrev pub AllNamed : List ℕ → ℕ → List Recorded → Type 0
AllNamed owners window [] = Unit {0}
AllNamed owners window (e ∷ es) = IfSome (named e.life) (IsOwned owners window) × AllNamed owners window es

-- What the opening has left is a suffix of what it took, and a proper one of its last item's spelling.
pub record IsRest (items : List Recorded) (opening : ℕ) (rest : List ℕ) : Type 0 where
  pub before : List ℕ
  pub joined : before ++ rest ≡ spelled_in opening items
  pub proper : length rest ≤ length (last_spelled opening [] items) - 1

-- a window's event file as calls can make it
pub record IsLawfulFile (owners : List ℕ) (latest window : ℕ) (f : EventFile) : Type 0 where
  pub order : InOrder 0 latest f.items
  pub closed : has_opening f ≡ false → none_pending f.items ≡ true
  pub takers : AllNamed owners window f.items
  pub openers : AllOwned owners window f.openings
  pub rests : (opening : ℕ) → IsRest f.items opening (carry_of f.openings opening)

-- each waiting read is on an open opening
abbrev pub AllLiving : BookState → Type 0
AllLiving s = list_all (λ r. is_living s r.opening) s.reads ≡ true

-- the files are in the order of their windows
abbrev pub WindowsRise : ℕ → List WindowFile → Type 0
WindowsRise low [] = Unit {0}
WindowsRise low (f ∷ fs) = (low ≤ f.window) × WindowsRise (suc f.window) fs

-- event files as calls can make them
pub record IsLawful (s : BookState) : Type 0 where
  pub rise : WindowsRise 0 s.files
  pub files : (window : ℕ) → IsLawfulFile s.owners s.latest window (file_of s.files window)
  pub living : AllLiving s

-- ---- the laws

-- What an open opening was given, with what it has left, is what it took. What it has left is shorter
-- than its last item.
pub record GivenIsSpelled (s : BookState) (opening : ℕ) : Type 0 where
  pub joined : given_to s opening ++ carry s opening ≡ spelled s opening
  pub proper : length (carry s opening) ≤ length (last_spelled opening [] (file_on s opening).items) - 1

-- so it is with each opening that is there
abbrev pub WhatAFidGets : BookState → Type 0
WhatAFidGets s = (opening : ℕ) → IsLiving s opening → GivenIsSpelled s opening

-- an opening that comes was given nothing
abbrev pub BeginsWithNothing : Type 0
BeginsWithNothing =
    (s : BookState) (window : ℕ) → IsLawful s → given_to (after_add s window) (next_opening s) ≡ []

-- each answer appends its bytes to what its opening was given
abbrev pub AskAppends : Type 0
AskAppends =
    (s : BookState) (r : Asker) (at : ℕ) (piece : Piece) → IsLawful s → IsLiving s r.opening → asked_of s r ≡ Now piece
    → given_to (after_ask s r at) r.opening ≡ given_to s r.opening ++ piece.bytes

-- what an answer gives goes behind what was given before
abbrev pub ServeAppends : Type 0
ServeAppends =
    (s : BookState) (at : ℕ) (r : Asker) (piece : Piece) → IsLawful s → served_of s ≡ Some (r, piece)
    → given_to (after_serve s at) r.opening ≡ given_to s r.opening ++ piece.bytes

-- and nothing to what another was given
abbrev pub Same : BookState → BookState → ℕ → Type 0
Same s t opening = (given_to t opening ≡ given_to s opening) × (carry t opening ≡ carry s opening)

-- a read gives nothing to other openings
abbrev pub AskLeavesOthers : Type 0
AskLeavesOthers =
    (s : BookState) (r : Asker) (at opening : ℕ) → IsLawful s → IsLiving s r.opening → opening ≢ r.opening
    → IsLiving s opening → Same s (after_ask s r at) opening

-- an answer gives nothing to other openings
abbrev pub ServeLeavesOthers : Type 0
ServeLeavesOthers =
    (s : BookState) (at : ℕ) (r : Asker) (piece : Piece) (opening : ℕ) → IsLawful s → served_of s ≡ Some (r, piece)
    → opening ≢ r.opening → IsLiving s opening → Same s (after_serve s at) opening

-- no other call changes what an opening was given that is open before and after
pub record OthersGiveNothing (s : BookState) (opening : ℕ) : Type 0 where
  pub add : (window : ℕ) → Same s (after_add s window) opening
  pub put : (window : ℕ) (item : Item) → Same s (after_put s window item) opening
  pub waits : (r : Asker) (at : ℕ) → read_waits s r ≡ true → Same s (after_ask s r at) opening
  pub idle : (at : ℕ) → next_of s ≡ None → Same s (after_serve s at) opening
  pub written : (window number at : ℕ) → Same s (after_written s window number at) opening
  pub cancel : (conn tag : ℕ) → Same s (after_cancel s conn tag) opening
  pub leave : (other at : ℕ) → other ≢ opening → Same s (after_leave s other at) opening
  pub delete : (window at : ℕ) → window ≢ window_of s.owners opening → Same s (after_delete s window at) opening

-- no other call gives anything
abbrev pub NothingElseGives : Type 0
NothingElseGives = (s : BookState) (opening : ℕ) → IsLawful s → IsLiving s opening → OthersGiveNothing s opening

-- ---- a flushed read takes none

-- no read with that connection and tag waits after the cancel
abbrev pub CancelledIsGone : Type 0
CancelledIsGone =
    (s : BookState) (conn tag : ℕ) → list_any (is_read conn tag) (after_cancel s conn tag).reads ≡ false

-- nor is one the next
abbrev pub CancelledIsNotNext : Type 0
CancelledIsNotNext =
    (s : BookState) (conn tag : ℕ) (r : Asker) → next_of (after_cancel s conn tag) ≡ Some r → is_read conn tag r ≡ false

-- no call but `ask` makes a read wait
pub record OnlyAskAdds (s : BookState) : Type 0 where
  pub ask : (r : Asker) (at : ℕ) → AddsOnly r s.reads (after_ask s r at).reads
  pub add : (window : ℕ) → AddsNone s.reads (after_add s window).reads
  pub put : (window : ℕ) (item : Item) → AddsNone s.reads (after_put s window item).reads
  pub serve : (at : ℕ) → AddsNone s.reads (after_serve s at).reads
  pub written : (window number at : ℕ) → AddsNone s.reads (after_written s window number at).reads
  pub cancel : (conn tag : ℕ) → AddsNone s.reads (after_cancel s conn tag).reads
  pub leave : (opening at : ℕ) → AddsNone s.reads (after_leave s opening at).reads
  pub delete : (window at : ℕ) → AddsNone s.reads (after_delete s window at).reads

-- only a read that asks begins to wait
abbrev pub OnlyAskWaits : Type 0
OnlyAskWaits = (s : BookState) → OnlyAskAdds s

-- what `serve` answers waited
abbrev pub ServedWaited : Type 0
ServedWaited = (s : BookState) (r : Asker) (piece : Piece) → served_of s ≡ Some (r, piece) → Contains s.reads r

-- ---- taken by an answer

-- An item is taken by an answer that is a non-empty prefix of its spelling, at the answer's entry. Each
-- other item is as before.
pub record IsTakenBy (s : BookState) (r : Asker) (at number : ℕ) : Type 0 where
  pub item : Item
  pub before : recorded_of s (window_of s.owners r.opening) number ≡ Some (record { item = item; life = Pending })
  pub after : recorded_of (after_answer s r at) (window_of s.owners r.opening)
      number ≡ Some (record { item = item; life = Taken r.opening at })
  pub prefix : (piece_for s r).bytes ≡ take r.count (spelling item)
  pub bytes : (piece_for s r).bytes ≢ []
  pub others : (window other : ℕ) → (window ≢ window_of s.owners r.opening) ⊎ (other ≢ number)
      → recorded_of (after_answer s r at) window other ≡ recorded_of s window other

-- an item is taken by the read that gets its first bytes
abbrev pub TakenWithItsAnswer : Type 0
TakenWithItsAnswer =
    (s : BookState) (r : Asker) (at number : ℕ) → IsLawful s → (piece_for s r).taken ≡ Some number
    → IsTakenBy s r at number

-- and an answer that takes none leaves all items
abbrev pub NoneTakenNoneChanged : Type 0
NoneTakenNoneChanged =
    (s : BookState) (r : Asker) (at window : ℕ) → IsLawful s → (piece_for s r).taken ≡ None →
    (file_of (after_answer s r at).files window).items ≡ (file_of s.files window).items

-- the opening took the item at this entry, and it isn't written back
abbrev pub IsTakenAt : BookState → ℕ → ℕ → Item → ℕ → ℕ → Type 0
IsTakenAt s window number item opening at =
    recorded_of s window number ≡ Some (record { item = item; life = Taken opening at })

-- what is taken after the call was so before, by the same opening at the same entry
abbrev pub TakesNone : BookState → BookState → Type 0
TakesNone s t =
    (window number : ℕ) (item : Item) (opening at : ℕ) → IsTakenAt t window number item opening at
    → IsTakenAt s window number item opening at

-- no call but one that answers a read takes an item
pub record OnlyAnswersTake (s : BookState) : Type 0 where
  pub add : (window : ℕ) → TakesNone s (after_add s window)
  pub put : (window : ℕ) (item : Item) → TakesNone s (after_put s window item)
  pub waits : (r : Asker) (at : ℕ) → read_waits s r ≡ true → TakesNone s (after_ask s r at)
  pub idle : (at : ℕ) → next_of s ≡ None → TakesNone s (after_serve s at)
  pub written : (window number at : ℕ) → TakesNone s (after_written s window number at)
  pub cancel : (conn tag : ℕ) → TakesNone s (after_cancel s conn tag)
  pub leave : (opening at : ℕ) → TakesNone s (after_leave s opening at)
  pub delete : (window at : ℕ) → TakesNone s (after_delete s window at)

-- only an answer takes items
abbrev pub TakenByAnswers : Type 0
TakenByAnswers = (s : BookState) → IsLawful s → OnlyAnswersTake s

-- ---- written back once

-- what is found was taken and fits, so it can be written back
pub record IsFound (s : BookState) (window number : ℕ) (m : BackMsg) : Type 0 where
  pub item : Item
  pub is : item_of s window number ≡ Some item
  pub taken : IsTaken s window number
  pub fit : fits m item ≡ true

-- the item that is found is one that the message names
abbrev pub FoundFits : Type 0
FoundFits =
    (s : BookState) (window number : ℕ) (m : BackMsg) → found_of s window m ≡ Ok number → IsFound s window number m

-- and is not found again once it was
abbrev pub WrittenOnce : Type 0
WrittenOnce =
    (s : BookState) (window number at : ℕ) (m : BackMsg) → IsLawful s
    → found_of (after_written s window number at) window m ≡ Ok number → ⊥

-- ---- dropped at a close alone

-- an item that is dropped at an entry
abbrev pub dropped : Item → ℕ → Recorded
dropped item at = record { item = item; life = Dropped at }

-- the item is one that is dropped at this entry
abbrev pub IsDropped : BookState → ℕ → ℕ → Item → ℕ → Type 0
IsDropped s window number item at = recorded_of s window number ≡ Some (dropped item at)

-- what is dropped after the call was so before
abbrev pub DropsNone : BookState → BookState → Type 0
DropsNone s t = (window number : ℕ) (item : Item) (at : ℕ) → IsDropped t window number item at
    → IsDropped s window number item at

-- what is dropped after the call was so before, or it is dropped at this entry and its event file isn't open then
abbrev pub DropsAt : BookState → BookState → ℕ → Type 0
DropsAt s t now =
    (window number : ℕ) (item : Item) (at : ℕ) → IsDropped t window number item at → IsDropped s window number item at
    ⊎ ((at ≡ now) × (is_open_window t window ≡ false))

-- only what closes a file drops items
pub record OnlyClosesDrop (s : BookState) : Type 0 where
  pub add : (window : ℕ) → DropsNone s (after_add s window)
  pub put : (window : ℕ) (item : Item) → DropsNone s (after_put s window item)
  pub ask : (r : Asker) (at : ℕ) → DropsNone s (after_ask s r at)
  pub serve : (at : ℕ) → DropsNone s (after_serve s at)
  pub written : (window number at : ℕ) → DropsNone s (after_written s window number at)
  pub cancel : (conn tag : ℕ) → DropsNone s (after_cancel s conn tag)
  pub leave : (opening at : ℕ) → DropsAt s (after_leave s opening at) at
  pub delete : (window at : ℕ) → DropsAt s (after_delete s window at) at

-- so it is with each book
abbrev pub DroppedAtClose : Type 0
DroppedAtClose = (s : BookState) → IsLawful s → OnlyClosesDrop s

-- ---- nothing follows back and dropped

-- whether it was written back or dropped
abbrev pub is_ended : Life → Bool
is_ended Pending = false
is_ended (Taken opening at) = false
is_ended (Back opening at back) = true
is_ended (Dropped at) = true

-- what is written back or dropped before the call is so after it, with the same entries
abbrev pub KeepsEnded : BookState → BookState → Type 0
KeepsEnded s t =
    (window number : ℕ) (e : Recorded) → recorded_of s window number ≡ Some e
    → is_ended e.life ≡ true → recorded_of t window number ≡ Some e

-- no call changes an item that was written back or dropped
pub record AllKeepEnded (s : BookState) : Type 0 where
  pub add : (window : ℕ) → KeepsEnded s (after_add s window)
  pub put : (window : ℕ) (item : Item) → KeepsEnded s (after_put s window item)
  pub ask : (r : Asker) (at : ℕ) → KeepsEnded s (after_ask s r at)
  pub serve : (at : ℕ) → KeepsEnded s (after_serve s at)
  pub written : (window number at : ℕ) → KeepsEnded s (after_written s window number at)
  pub cancel : (conn tag : ℕ) → KeepsEnded s (after_cancel s conn tag)
  pub leave : (opening at : ℕ) → KeepsEnded s (after_leave s opening at)
  pub delete : (window at : ℕ) → KeepsEnded s (after_delete s window at)

-- so it is with each book
abbrev pub EndedStay : Type 0
EndedStay = (s : BookState) → IsLawful s → AllKeepEnded s
