-- What is dropped, and what ended, over each call.
use Rattle.std.proofs.Common.{◌≡◌, ℕ, suc, false, nat_lt, List, [], ◌∷◌, length, refl, arith, inl, inr}
use Rattle.wait_queue.specs.Carry.{OpenCarry}
use Rattle.event_book.specs.declared.lives.Recorded.{Recorded}
use Rattle.event_book.specs.WindowFiles.{EventFile, has_opening, with_written, left, deleted, file_of}
use Rattle.event_book.specs.BookState.{BookState, window_of, file_on, is_open_window}
use Rattle.event_book.specs.Laws.{IsLawful, DropsNone, DropsAt, KeepsEnded}
use Rattle.event_book.proofs.TableLemmas.{true_false, lt_true}
use Rattle.event_book.proofs.DropLemmas.{only_closes}
use Rattle.event_book.proofs.LifeLemmas.{ended_stays}
use Rattle.book_calls.specs.Calls.{Making, Add, Put, Ask, Serve, Ending, Written, Cancel, Leave, Delete, CanMake, made}
use Rattle.book_calls.specs.Calls.{Answers, ended}
use Rattle.book_calls.proofs.Items.{with_files}
use Rattle.book_calls.proofs.Steps.{IsKept}

-- ---- what is made drops nothing

made_drops : (at : ℕ) (s : BookState) (c : Making) → IsLawful s → DropsNone s (made at s c)
made_drops at s (Add w) lawful = (only_closes s lawful).add w
made_drops at s (Put w item) lawful = (only_closes s lawful).put w item
made_drops at s (Ask r) lawful = (only_closes s lawful).ask r at
made_drops at s Serve lawful = (only_closes s lawful).serve at

pub drops_on : (first : BookState) (at : ℕ) (g : Answers) (s : BookState) (c : Making) → IsKept at s → CanMake s c
    → DropsNone first s → DropsNone first (made at s c)
drops_on first at g s c k can h w n item a is = h w n item a (made_drops at s c k.lawful w n item a is)

-- ---- a closed event file stays closed

abbrev StaysClosed : EventFile → EventFile → Type 0
StaysClosed f g = has_opening f ≡ false → has_opening g ≡ false

closed_left : (o at : ℕ) (items : List Recorded) (cs : List OpenCarry)
    → StaysClosed (record { items = items; openings = cs }) (left (record { items = items; openings = cs }) o at)
closed_left o at items [] h = refl
closed_left o at items (c ∷ cs) h = absurd (true_false (nat_lt 0 (suc (length cs)))
    (lt_true 0 (suc (length cs)) (omega arith)) h)

closed_stays : (at : ℕ) (s : BookState) (c : Ending) (v : ℕ) → IsLawful s
    → is_open_window s v ≡ false → is_open_window (ended at s c) v ≡ false
closed_stays at s (Written w n) v lawful = with_files StaysClosed (λ f h. h) w v (with_written (file_of s.files w) n at)
    s.files lawful.rise (λ h. h)
closed_stays at s (Cancel conn tag) v lawful = λ h. h
closed_stays at s (Leave o) v lawful =
    with_files StaysClosed (λ f h. h) (window_of s.owners o) v (left (file_on s o) o at) s.files lawful.rise
    (closed_left o at (file_on s o).items (file_on s o).openings)
closed_stays at s (Delete w) v lawful = with_files StaysClosed (λ f h. h) w v (deleted (file_of s.files w) at) s.files
    lawful.rise (λ h. refl)

-- ---- what ends drops at this entry alone

ended_drops : (at : ℕ) (s : BookState) (c : Ending) → IsLawful s → DropsAt s (ended at s c) at
ended_drops at s (Written w n) lawful v m item a is = inl ((only_closes s lawful).written w n at v m item a is)
ended_drops at s (Cancel conn tag) lawful v m item a is = inl is
ended_drops at s (Leave o) lawful v m item a is = (only_closes s lawful).leave o at v m item a is
ended_drops at s (Delete w) lawful v m item a is = (only_closes s lawful).delete w at v m item a is

pub drops_ended : (first : BookState) (at : ℕ) (s : BookState) (c : Ending) → IsKept at s → DropsAt first s at
    → DropsAt first (ended at s c) at
drops_ended first at s c k h w n item a is =
    elim (ended_drops at s c k.lawful w n item a is) [
      | inl was ↦ elim (h w n item a was) [
        | inl first_was ↦ inl first_was
        | inr now ↦ inr (now.0, closed_stays at s c w k.lawful now.1)
      ]
      | inr now ↦ inr now
    ]

-- ---- what ended stays so

made_stays : (at : ℕ) (s : BookState) (c : Making) → IsLawful s → KeepsEnded s (made at s c)
made_stays at s (Add w) lawful = (ended_stays s lawful).add w
made_stays at s (Put w item) lawful = (ended_stays s lawful).put w item
made_stays at s (Ask r) lawful = (ended_stays s lawful).ask r at
made_stays at s Serve lawful = (ended_stays s lawful).serve at

ended_stay : (at : ℕ) (s : BookState) (c : Ending) → IsLawful s → KeepsEnded s (ended at s c)
ended_stay at s (Written w n) lawful = (ended_stays s lawful).written w n at
ended_stay at s (Cancel conn tag) lawful = (ended_stays s lawful).cancel conn tag
ended_stay at s (Leave o) lawful = (ended_stays s lawful).leave o at
ended_stay at s (Delete w) lawful = (ended_stays s lawful).delete w at

pub stays_on : (first : BookState) (at : ℕ) (g : Answers) (s : BookState) (c : Making) → IsKept at s → CanMake s c
    → KeepsEnded first s → KeepsEnded first (made at s c)
stays_on first at g s c k can h w n e is t = made_stays at s c k.lawful w n e (h w n e is t) t

pub stays_ended : (first : BookState) (at : ℕ) (s : BookState) (c : Ending) → IsKept at s → KeepsEnded first s
    → KeepsEnded first (ended at s c)
stays_ended first at s c k h w n e is t = ended_stay at s c k.lawful w n e (h w n e is t) t
