-- The laws of all journals: each entry keeps them.
use Rattle.std.proofs.Common.{◌≡◌, ℕ, zero, suc, ◌+◌, ◌==◌, not, true, false, cond, List, [], ◌∷◌, ◌++◌, length, map}
use Rattle.std.proofs.Common.{slice_get, Option, Some, None, refl, sym, ap, subst, ◌∙◌, append_assoc, append-nil, arith}
use Rattle.std.proofs.Common.{◌⊎◌, inl, inr}
use Rattle.std.specs.Option.{option_map}
use Rattle.std.proofs.lemmas.Bool.{and_parts}
use Rattle.win_events.specs.declared.item.Item.{Item}
use Rattle.win_events.specs.declared.item.Life.TheVariants.{Pending}
use Rattle.wait_queue.specs.declared.types.Asker.{Asker}
use Rattle.wait_queue.specs.declared.types.Piece.{Piece}
use Rattle.event_book.specs.declared.lives.Recorded.{Recorded}
use Rattle.event_book.specs.Lives.{pends, numbered}
use Rattle.event_book.specs.BookState.{window_of, file_on, is_open_window}
use Rattle.event_book.specs.WindowFiles.{file_of}
use Rattle.event_book.specs.Laws.{IsLawful, IsDropped, KeepsEnded, none_pending}
use Rattle.event_book.proofs.FidLemmas.{in_order}
use Rattle.book_calls.specs.Calls.{Answers, bytes_to}
use Rattle.book_calls.specs.Laws.{Gets, WasTaken, HasItsAnswer}
use Rattle.book_calls.proofs.Rests.{proper_end}
use Rattle.book_calls.proofs.Takes.{taken_window}
use Rattle.am_journal.specs.declared.event.Event.{Event}
use Rattle.acme_core.specs.Run.{run}
use Rattle.acme_core.proofs.Idling.{run_idle}
use Rattle.core_laws.specs.Saying.{said_after}
use Rattle.event_laws.specs.Rreads.{Rread, rreads_of, rreads_from, data_on, delivered}
use Rattle.event_laws.specs.Laws.{book_after, rread_to, IsPending, IsDroppedBy, GetsItsItems, Telling, HasItsRread}
use Rattle.event_laws.specs.Laws.{EachHasItsOwn, EventsAreLawful}
use Rattle.event_laws.proofs.Steps.{entry, entry_laws}
use Rattle.am_journal.specs.declared.event.Journal.{Journal}
use Rattle.am_journal.specs.Journal.{longer, journal_in}
use Rattle.core_laws.specs.Fronts.{followed}
use Rattle.core_laws.proofs.Playing.{goes_on, none_more}
use Rattle.am_journal.specs.declared.event.Format.{Format}

lawful_after : (journal : Journal) → IsLawful (book_after journal)
lawful_after journal = (run_idle journal).lawful

-- ---- what is dropped

some_same : {A : Type 0} (a b : A) → Some a ≡ Some b → a ≡ b
some_same a b h = cc

none_some : {A : Type 0} (a : A) → ◌≡◌ {A = Option A} None (Some a) → ⊥
none_some a h = cc

abbrev pending : Item → Recorded
pending item = record { item = item; life = Pending }

pending_there : (es : List Recorded) (k : ℕ) (item : Item) → slice_get es k ≡ Some (pending item)
    → none_pending es ≡ true → ⊥
pending_there [] k item is none = none_some (pending item) is
pending_there (x ∷ es) zero item is none =
    let parts = and_parts (not (pends x)) (none_pending es) none in
    let same : x ≡ pending item = some_same x (pending item) is in
    let no : false ≡ true = sym (ap (λ (y : Recorded). not (pends y)) same) ∙ parts.0 in
    absurd cc
pending_there (x ∷ es) (suc k) item is none = pending_there es k item is
    (and_parts (not (pends x)) (none_pending es) none).1

pending_number : (es : List Recorded) (n : ℕ) (item : Item) → numbered es n ≡ Some (pending item)
    → none_pending es ≡ true → ⊥
pending_number es zero item is none = none_some (pending item) is
pending_number es (suc k) item is none = pending_there es k item is none

-- an item pends only while the event file is open
pending_open : (journal : Journal) (w n : ℕ) (item : Item) → IsPending (book_after journal) w n item
    → is_open_window (book_after journal) w ≡ true
pending_open journal w n item pends =
    (elim (is_open_window (book_after journal) w) as (λ b. is_open_window (book_after journal) w ≡ b → b ≡ true) [
      | true ↦ λ e. refl
      | false ↦ λ e. absurd (pending_number (file_of (book_after journal).files w).items n item pends
          (((lawful_after journal).files w).closed e))
    ]) refl

dropped : (before : Journal) (e : Event) (w n at : ℕ) (item : Item)
    → IsDropped (book_after (longer before e)) w n item at → IsDropped (book_after before) w n item at
    ⊎ IsDroppedBy before e w n item at
dropped before e w n at item is =
    elim ((entry_laws before e).drops w n item at is) [
      | inl was ↦ inl was
      | inr now ↦ inr (record { entry = now.0; closed = now.1; was_open = pending_open before w n item })
    ]

-- ---- what ended stays so

stays_from : (before : Journal) (events : List Event) → KeepsEnded (book_after before)
    (book_after (followed before events))
stays_from before [] = subst (λ (l : Journal). KeepsEnded (book_after before) (book_after l))
    (sym (none_more before)) (λ w n e is t. is)
stays_from before (e ∷ events) =
    subst (λ (l : Journal). KeepsEnded (book_after before) (book_after l)) (goes_on before e events)
    (λ w n x is t. stays_from (longer before e) events w n x ((entry_laws before e).stays w n x is t) t)

-- ---- what an opening gets

data_append : (o : ℕ) (xs ys : List Rread) → data_on o (xs ++ ys) ≡ data_on o xs ++ data_on o ys
data_append o [] ys = refl
data_append o (x ∷ xs) ys =
    ap (λ (l : List ℕ). cond (x.opening == o) x.bytes [] ++ l) (data_append o xs ys)
    ∙ sym (append_assoc (cond (x.opening == o) x.bytes []) (data_on o xs) (data_on o ys))

-- the data of the Rreads is what the answers give
data_given : (at o : ℕ) (g : Answers) → data_on o (map (rread_to at) g) ≡ bytes_to o g
data_given at o [] = refl
data_given at o (a ∷ g) = ap (λ (l : List ℕ). cond (a.0.opening == o) a.1.bytes [] ++ l) (data_given at o g)

gets_entry : (before : Journal) (e : Event) (o : ℕ) (d : List ℕ) → Gets d (file_on (book_after before) o) o
    → Gets (d ++ data_on o (rreads_of (length before.events + 1) (said_after before e)))
    (file_on (book_after (longer before e)) o) o
gets_entry before e o d h =
    let at : ℕ = length before.events + 1 in
    let same : bytes_to o (entry before e).answers ≡ data_on o (rreads_of at (said_after before e)) =
    sym (data_given at o (entry before e).answers) ∙ ap (data_on o) (entry before e).tells in
    subst (λ (x : List ℕ). Gets (d ++ x) (file_on (book_after (longer before e)) o) o) same
    ((entry_laws before e).gets o d h)

gets_from : (before : Journal) (events : List Event) (o : ℕ) (d : List ℕ) → Gets d (file_on (book_after before) o) o
    → Gets (d ++ data_on o (rreads_from before events)) (file_on (book_after (followed before events)) o) o
unfolding rreads_from
gets_from before [] o d h =
    subst (λ (l : Journal). Gets (d ++ []) (file_on (book_after l) o) o) (sym (none_more before))
    (subst (λ (x : List ℕ). Gets x (file_on (book_after before) o) o) (sym (append-nil d)) h)
gets_from before (e ∷ events) o d h =
    let now : List Rread = rreads_of (length before.events + 1) (said_after before e) in
    let later : List Rread = rreads_from (longer before e) events in
    let rest : Gets ((d ++ data_on o now) ++ data_on o later)
    (file_on (book_after (followed (longer before e) events)) o)
    o =
    gets_from (longer before e) events o (d ++ data_on o now) (gets_entry before e o d h)
    in
    let whole : (d ++ data_on o now) ++ data_on o later ≡ d ++ data_on o (now ++ later) =
    append_assoc d (data_on o now) (data_on o later) ∙ ap (λ (x : List ℕ). d ++ x) (sym (data_append o now later))
    in
    subst (λ (l : Journal). Gets (d ++ data_on o (now ++ later)) (file_on (book_after l) o) o)
    (goes_on before e events)
    (subst (λ (x : List ℕ). Gets x (file_on (book_after (followed (longer before e) events)) o) o) whole rest)

begins : (format : Format) (o : ℕ) → Gets [] (file_on (book_after (journal_in format [])) o) o
unfolding run
begins format o = record { missing = []; joined = refl; proper = omega arith; living = λ l. refl }

gets : (journal : Journal) (o : ℕ) → GetsItsItems journal o
gets journal o =
    let h : Gets (delivered journal o) (file_on (book_after journal) o) o =
    gets_from (journal_in journal.format []) journal.events o [] (begins journal.format o)
    in
    record {
      missing = h.missing;
      joined = h.joined;
      proper = proper_end (delivered journal o)
          (file_on (book_after journal) o) o h;
      living = h.living;
    }

-- ---- each item by an Rread of its own

-- the item that an answer takes, by its window and number
abbrev as_item : ℕ → ℕ → Option (ℕ × ℕ)
as_item w n = Some (w, n)

abbrev as_telling : Rread → Option (ℕ × ℕ) → Telling
as_telling x takes = record { rread = x; takes = takes }

abbrev takes_item : List ℕ → Asker × Piece → Option (ℕ × ℕ)
takes_item owners a = option_map {U = ℕ × ℕ} (λ n. (window_of owners a.0.opening, n)) a.1.taken

abbrev told_by : ℕ → List ℕ → Asker × Piece → Telling
told_by at owners a = record { rread = rread_to at a; takes = takes_item owners a }

told_from : Journal → List Event → List Telling
told_from before [] = []
told_from before (e ∷ events) =
    map (told_by (length before.events + 1) (book_after (longer before e)).owners) (entry before e).answers
    ++ told_from (longer before e) events

map_append : (f : Telling → Rread) (xs ys : List Telling) → map f (xs ++ ys) ≡ map f xs ++ map f ys
map_append f [] ys = refl
map_append f (x ∷ xs) ys = ap (λ (l : List Rread). f x ∷ l) (map_append f xs ys)

told_rreads : (at : ℕ) (owners : List ℕ) (g : Answers) → map (λ (t : Telling). t.rread)
    (map (told_by at owners) g) ≡ map (rread_to at) g
told_rreads at owners [] = refl
told_rreads at owners (a ∷ g) = ap (λ (l : List Rread). rread_to at a ∷ l) (told_rreads at owners g)

told_all : (before : Journal) (events : List Event) → map (λ (t : Telling). t.rread) (told_from before events)
    ≡ rreads_from before
    events
unfolding rreads_from told_from
told_all before [] = refl
told_all before (e ∷ events) =
    let at : ℕ = length before.events + 1 in
    let owners : List ℕ = (book_after (longer before e)).owners in
    let g : Answers = (entry before e).answers in
    map_append (λ (t : Telling). t.rread) (map (told_by at owners) g) (told_from (longer before e) events)
    ∙ ap (λ (l : List Rread). l ++ map (λ (t : Telling). t.rread) (told_from (longer before e) events))
    (told_rreads at owners g ∙ (entry before e).tells)
    ∙ ap (λ (l : List Rread). rreads_of at (said_after before e) ++ l) (told_all (longer before e) events)

front_get : (xs ys : List Telling) (k : ℕ) (v : Telling) → slice_get xs k ≡ Some v → slice_get (xs ++ ys) k ≡ Some v
front_get [] ys k v h = absurd (none_some v h)
front_get (x ∷ xs) ys zero v h = h
front_get (x ∷ xs) ys (suc k) v h = front_get xs ys k v h

-- the place in the second list, counted from the first
abbrev behind : List Telling → ℕ → ℕ
behind [] k = k
behind (x ∷ xs) k = suc (behind xs k)

back_get : (xs ys : List Telling) (k : ℕ) → slice_get (xs ++ ys) (behind xs k) ≡ slice_get ys k
back_get [] ys k = refl
back_get (x ∷ xs) ys k = back_get xs ys k

get_told : (at : ℕ) (owners : List ℕ) (g : Answers) (k : ℕ) (a : Asker × Piece) → slice_get g k ≡ Some a
    → slice_get (map (told_by at owners) g) k ≡ Some (told_by at owners a)
get_told at owners [] k a h = absurd (none_some a h)
get_told at owners (x ∷ g) zero a h = ap (λ (y : Asker × Piece). Some (told_by at owners y)) (some_same x a h)
get_told at owners (x ∷ g) (suc k) a h = get_told at owners g k a h

has_front : (xs ys : List Telling) (w n : ℕ) (item : Item) (o at : ℕ) → HasItsRread xs w n item o at
    → HasItsRread (xs ++ ys) w n item o at
has_front xs ys w n item o at h =
    record {
      place = h.place;
      rread = h.rread;
      is = front_get xs ys h.place (as_telling h.rread (as_item w n)) h.is;
      its = h.its;
    }

has_back : (xs ys : List Telling) (w n : ℕ) (item : Item) (o at : ℕ) → HasItsRread ys w n item o at
    → HasItsRread (xs ++ ys) w n item o at
has_back xs ys w n item o at h = record {
  place = behind xs h.place;
  rread = h.rread;
  is = back_get xs ys h.place
      ∙ h.is;
  its = h.its;
}

-- an answer of this entry is told as the Rread of the item
told_answer : (at : ℕ) (owners : List ℕ) (g : Answers) (w n o a : ℕ) (item : Item)
    → a ≡ at → window_of owners o ≡ w → HasItsAnswer g n item o → HasItsRread (map (told_by at owners) g) w n item o a
told_answer at owners g w n o a item now window h =
    let own : window_of owners h.asker.opening ≡ w = ap (window_of owners) h.on ∙ window in
    let takes : takes_item owners (h.asker, h.piece) ≡ Some (w, n) =
    ap (λ (x : Option ℕ). option_map {U = ℕ × ℕ} (λ m. (window_of owners h.asker.opening, m)) x) h.takes
    ∙ ap (λ (v : ℕ). as_item v n) own
    in
    record {
      place = h.place;
      rread = rread_to at (h.asker, h.piece);
      is = get_told at owners g h.place (h.asker, h.piece) h.is ∙ ap
          (λ (t : Option (ℕ × ℕ)). Some (as_telling (rread_to at (h.asker, h.piece)) t)) takes;
      its = record { entry = sym now; on = h.on; count = h.asker.count; front = h.front; some = h.some };
    }

taken_from : (before : Journal) (events : List Event) (w n o at : ℕ) (item : Item)
    → WasTaken (book_after (followed before events)) w n item o at
    → WasTaken (book_after before) w n item o at ⊎ HasItsRread (told_from before events) w n item o at
unfolding told_from
taken_from before [] w n o at item h = inl (subst (λ (l : Journal). WasTaken (book_after l) w n item o at)
    (none_more before) h)
taken_from before (e ∷ events) w n o at item h =
    let next : Journal = longer before e in
    let now : List Telling = map (told_by (length before.events + 1) (book_after next).owners) (entry before e).answers
    in
    elim (taken_from next events w n o at item (subst (λ (l : Journal). WasTaken (book_after l) w n item o at)
    (sym (goes_on before e events)) h)) [
      | inl was ↦ elim ((entry_laws before e).takes w n o at item was) [
        | inl earlier ↦ inl earlier
        | inr own ↦ inr (has_front now (told_from next events) w n item o at
            (told_answer (length before.events + 1) (book_after next).owners (entry before e).answers w n o at item
            own.0
            ((entry_laws before e).windows w n o at item was) own.1))
      ]
      | inr later ↦ inr (has_back now (told_from next events) w n item o at later)
    ]

no_items : (format : Format) (w n o at : ℕ) (item : Item)
    → WasTaken (book_after (journal_in format [])) w n item o at → ⊥
unfolding run
no_items format w zero o at item h = none_some _ h.is
no_items format w (suc n) o at item h = none_some _ h.is

own : (journal : Journal) → EachHasItsOwn journal
own journal = record {
  told = told_from (journal_in journal.format []) journal.events;
  all = told_all (journal_in journal.format []) journal.events;
  taken = λ w n o at item h. elim (taken_from (journal_in journal.format []) journal.events w n o at item h) [
    | inl was ↦ absurd (no_items journal.format w n o at item was)
    | inr has ↦ has
  ];
}

-- ---- all of them

pub lawful : EventsAreLawful
lawful journal = record {
  calls = λ before after e is. entry before e;
  order = in_order (book_after journal) (lawful_after journal);
  drops = λ before after e is w n at item there. dropped before e w n at item there;
  stays = λ before prefix. subst (λ (l : Journal). KeepsEnded (book_after before) (book_after l)) prefix.1
      (stays_from before prefix.0);
  gets = gets journal;
  windows = λ w n o at item h. taken_window (book_after journal) w n o at item (lawful_after journal) h;
  own = own journal;
}
