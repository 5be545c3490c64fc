-- The event file of window 1 stays listed, and keeps its opening.
use Rattle.std.proofs.Common.{◌≡◌, ℕ, Bool, true, false, ◌||◌, ◌&&◌, List, [], ◌∷◌, length, drop, refl, ap, ◌∙◌}
use Rattle.std.specs.Prelude.{if◌then◌else◌, nat_lt}
use Rattle.wait_queue.specs.Carry.{OpenCarry, set_carry}
use Rattle.wait_queue.specs.WaitState.{WaitState, after_from, piece_of}
use Rattle.wait_queue.specs.declared.pending.Pending.{Pending}
use Rattle.win_events.specs.declared.item.Life.TheVariants.{Taken}
use Rattle.event_book.specs.declared.lives.Recorded.{Recorded}
use Rattle.event_book.specs.BookState.{after_answer}
use Rattle.event_book.specs.Lives.{pending_from}
use Rattle.event_book.specs.WindowFiles.{EventFile, WindowFile, with_file, given, queue_of, items_after}
use Rattle.am_drill.proofs.Standing.{Facts, book_with, file_with}
use Rattle.am_drill.proofs.Steps.{reader}

pub or_true : (b : Bool) → (b || true) ≡ true
or_true true = refl
or_true false = refl

pub and_false : (b : Bool) → (b && false) ≡ false
and_false true = refl
and_false false = refl

-- an event file with an opening stays listed
pub stays_listed : (old : EventFile) (items : List Recorded) (carry : List ℕ)
    → with_file 1 (file_with items carry) (record { window = 1; file = old } ∷ [])
    ≡ record { window = 1; file = file_with items carry } ∷ []
stays_listed old items carry =
    ap (λ (b : Bool). if b then record { window = 1; file = file_with items carry } ∷ [] else [])
    (or_true (nat_lt 0 (length items)))

-- what a read leaves of an opening
pub left_of : List ℕ → List Pending → List ℕ
left_of (b ∷ bs) ps = drop 64 (b ∷ bs)
left_of [] (p ∷ ps) = drop 64 p.bytes
left_of [] [] = []

leaves : (cs : List ℕ) (ps : List Pending) (w : WaitState) → w.openings ≡ record { opening = 1; carry = cs } ∷ []
    → (after_from cs ps w reader).openings ≡ record { opening = 1; carry = left_of cs ps } ∷ []
unfolding left_of
leaves (b ∷ bs) ps w e = ap (λ (os : List OpenCarry). set_carry os 1 (drop 64 (b ∷ bs))) e
leaves [] (p ∷ ps) w e = ap (λ (os : List OpenCarry). set_carry os 1 (drop 64 p.bytes)) e
leaves [] [] w e = e

-- the items and the carry after the read was answered
abbrev pub items_left : Facts → ℕ → List Recorded
items_left f at = items_after (piece_of (queue_of (file_with f.items f.carry)) reader).taken (Taken 1 at) f.items

abbrev pub carry_left : Facts → List ℕ
carry_left f = left_of f.carry (pending_from 1 f.items)

given_is : (f : Facts) (at : ℕ) → given (file_with f.items f.carry) reader at ≡ file_with (items_left f at)
    (carry_left f)
given_is f at = ap (λ (os : List OpenCarry). record { items = items_left f at; openings = os })
    (leaves f.carry (pending_from 1 f.items) (queue_of (file_with f.items f.carry)) refl)

pub answered_book : (f : Facts) (at : ℕ) → after_answer (book_with [] f) reader at ≡ book_with []
    (record f { items = items_left f at; carry = carry_left f; latest = at })
answered_book f at =
    ap (λ (file : EventFile). record {
      files = with_file 1 file (record { window = 1; file = file_with f.items f.carry }
          ∷ []);
      owners = 1 ∷ [];
      reads = [];
      latest = at;
    }) (given_is f at)
    ∙ ap (λ (files : List WindowFile). record { files = files; owners = 1 ∷ []; reads = []; latest = at })
    (stays_listed (file_with f.items f.carry) (items_left f at) (carry_left f))
