-- The laws of the calls of one entry.
use Rattle.std.proofs.Common.{◌≡◌, ℕ, List, [], ◌++◌, sym, subst, arith, append-nil, ◌⊎◌, inl}
use Rattle.win_events.specs.declared.item.Item.{Item}
use Rattle.event_book.specs.BookState.{BookState, file_on}
use Rattle.event_book.specs.Laws.{DropsNone, DropsAt, KeepsEnded}
use Rattle.book_calls.specs.Calls.{Making, Ending, Answers, CanMakeAll, all_made, all_given, bytes_to, CanEndAll}
use Rattle.book_calls.specs.Calls.{all_ended}
use Rattle.book_calls.specs.Laws.{Gets, WasTaken, HasItsAnswer, IsLawfulEntry, CallsAreLawful}
use Rattle.book_calls.proofs.Steps.{IsKept, over_makes, over_ends, kept_makes, kept_ends}
use Rattle.book_calls.proofs.Openings.{gets_on, gets_ended}
use Rattle.book_calls.proofs.Drops.{drops_on, drops_ended, stays_on, stays_ended}
use Rattle.book_calls.proofs.Takes.{takes_on, was_ended, taken_window}

module _ (at : ℕ) (s : BookState) (makes : List Making) (ends : List Ending) (k : IsKept at s)
    (can_make : CanMakeAll at s makes) (can_end : CanEndAll at (all_made at s makes) ends) where
  abbrev Middle : BookState
  Middle = all_made at s makes

  abbrev Last : BookState
  Last = all_ended at (all_made at s makes) ends

  middle : IsKept at Middle
  middle = kept_makes at s makes can_make k

  drops : DropsAt s Last at
  drops =
      let none : DropsNone s Middle = over_makes at (λ g t. DropsNone s t)
      (λ g t c own can h. drops_on s at g t c own can h) [] s makes k can_make (λ w n item a is. is) in
      over_ends at (λ t. DropsAt s t at) (λ t c own h. drops_ended s at t c own h) Middle ends middle can_end
      (λ w n item a is. inl (none w n item a is))

  stays : KeepsEnded s Last
  stays =
      let made : KeepsEnded s Middle = over_makes at (λ g t. KeepsEnded s t)
      (λ g t c own can h. stays_on s at g t c own can h) [] s makes k can_make (λ w n e is t. is) in
      over_ends at (λ t. KeepsEnded s t) (λ t c own h. stays_ended s at t c own h) Middle ends middle can_end made

  gets : (o : ℕ) (d : List ℕ) → Gets d (file_on s o) o → Gets (d ++ bytes_to o (all_given at s makes)) (file_on Last o)
      o
  gets o d h =
      let made : Gets (d ++ bytes_to o (all_given at s makes)) (file_on Middle o) o =
      over_makes at (λ g t. Gets (d ++ bytes_to o g) (file_on t o) o)
      (λ g t c own can h. gets_on d at o g t c own can h) [] s makes k can_make
      (subst (λ (x : List ℕ). Gets x (file_on s o) o) (sym (append-nil d)) h)
      in
      over_ends at (λ t. Gets (d ++ bytes_to o (all_given at s makes)) (file_on t o) o)
      (λ t c own h. gets_ended (d ++ bytes_to o (all_given at s makes)) at o t c own h) Middle ends middle can_end
      made

  -- what was taken in this book was so in the first one, or is by one of these answers
  abbrev TakesSo : Answers → BookState → Type 0
  TakesSo g t = (w n opening entry : ℕ) (item : Item) → WasTaken t w n item opening entry
      → WasTaken s w n item opening entry ⊎ ((entry ≡ at) × HasItsAnswer g n item opening)

  takes : TakesSo (all_given at s makes) Last
  takes =
      let made : TakesSo (all_given at s makes) Middle = over_makes at TakesSo
      (λ g t c own can h. takes_on s at g t c own can h) [] s makes k can_make
      (λ w n opening entry item h. inl h) in
      over_ends at (TakesSo (all_given at s makes)) (λ t c own h w n opening entry item taken. h w n opening entry item
      (was_ended at t c own w n item opening entry taken)) Middle ends middle can_end made

  all : IsLawfulEntry at s Last (all_given at s makes)
  all =
      let end : IsKept at Last = kept_ends at Middle ends can_end middle in
      record {
        lawful = end.lawful;
        latest = end.latest;
        drops = drops;
        stays = stays;
        gets = gets;
        takes = takes;
        windows = λ w n opening entry item h. taken_window Last w n opening entry item end.lawful h;
      }

pub lawful : CallsAreLawful
lawful at old new answers before calls =
    let k : IsKept at old = record { lawful = before.lawful; latest = omega (arith, before.earlier) } in
    subst (λ (t : BookState). IsLawfulEntry at old t answers) calls.book
    (subst (λ (g : Answers). IsLawfulEntry at old (all_ended at (all_made at old calls.makes) calls.ends) g) calls.gives
    (all at old calls.makes calls.ends k calls.can_make calls.can_end))
