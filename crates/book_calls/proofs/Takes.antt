-- Who took an item, over each call.
use Rattle.std.proofs.Common.{◌≡◌, ◌≢◌, ◌==◌, ℕ, zero, suc, true, false, cond, List, [], ◌∷◌, ◌++◌, take, slice_get}
use Rattle.std.proofs.Common.{Option, Some, None, IfSome, refl, sym, ap, ◌∙◌, subst, arith, ◌⊎◌, inl, inr}
use Rattle.std.specs.Option.{option_map}
use Rattle.std.proofs.lemmas.Bool.Decides.{nat_tests}
use Rattle.win_events.specs.Spelling.{spelling}
use Rattle.win_events.specs.declared.item.Item.{Item}
use Rattle.win_events.specs.declared.item.Life.{Life}
use Rattle.win_events.specs.declared.item.Life.TheVariants.{Pending, Taken, Back, Dropped}
use Rattle.wait_queue.specs.Carry.{without_opening}
use Rattle.wait_queue.specs.declared.types.Asker.{Asker}
use Rattle.wait_queue.specs.declared.types.Piece.{Piece}
use Rattle.event_book.specs.declared.lives.Recorded.{Recorded}
use Rattle.event_book.specs.Lives.{fresh, drop_life, with_drop, back_life, with_back, numbered}
use Rattle.event_book.specs.WindowFiles.{enlisted, with_item, with_written, left, deleted, file_of}
use Rattle.event_book.specs.BookState.{BookState, window_of, file_on, recorded_of, next_opening, read_waits, piece_for}
use Rattle.event_book.specs.BookState.{after_answer, after_ask, next_of, after_next}
use Rattle.event_book.specs.Laws.{IsOwned, AllNamed, named, IsLawful, IsTakenBy}
use Rattle.event_book.proofs.TableLemmas.{eq_from_test}
use Rattle.event_book.proofs.FidLemmas.{taken_with, none_taken}
use Rattle.event_book.proofs.LawfulLemmas.{owner-window}
use Rattle.book_calls.specs.Calls.{Making, Add, Put, Ask, Serve, Ending, Written, Cancel, Leave, Delete, CanMake, made}
use Rattle.book_calls.specs.Calls.{Answers, if_answered, given, ended}
use Rattle.book_calls.specs.Laws.{taker, IsTakenAs, WasTaken, HasItsAnswer}
use Rattle.book_calls.proofs.Items.{pushed, written, closed, left_items, with_items}
use Rattle.book_calls.proofs.Steps.{IsKept}

some_same : {A : Type 0} (a b : A) → Some a ≡ Some b → a ≡ b
some_same a b h = cc

none_some : {A : Type 0} (a : A) → ◌≡◌ {A = Option A} None (Some a) → ⊥
none_some a h = cc

abbrev as_recorded : Item → Life → Recorded
as_recorded item life = record { item = item; life = life }

-- ---- an item that was taken after a change was so before

abbrev Was : Option Recorded → Option Recorded → Type 0
Was before after = (item : Item) (opening entry : ℕ) → IsTakenAs after item opening entry
    → IsTakenAs before item opening entry

was : (o : Option Recorded) → Was o o
was o item opening entry h = h

fresh_was : (new : Item) → Was None (Some (fresh new))
fresh_was new item opening entry h =
    let e : fresh new ≡ as_recorded item h.life = some_same (fresh new) (as_recorded item h.life) h.is in
    absurd (none_some {A = ℕ × ℕ} (opening, entry) (ap (λ (r : Recorded). taker r.life) e ∙ h.taken))

changed_was : (x y : Recorded) → y.item ≡ x.item → taker y.life ≡ taker x.life → Was (Some x) (Some y)
changed_was x y i t item opening entry h =
    let e : y ≡ as_recorded item h.life = some_same y (as_recorded item h.life) h.is in
    record {
      life = x.life;
      is = ap (λ (z : Item). Some (as_recorded z x.life)) (sym i ∙ ap (λ (r : Recorded). r.item) e);
      taken = sym t ∙ ap (λ (r : Recorded). taker r.life) e ∙ h.taken;
    }

back_taker : (at : ℕ) (life : Life) → taker (back_life at life) ≡ taker life
back_taker at Pending = refl
back_taker at (Taken o a) = refl
back_taker at (Back o a b) = refl
back_taker at (Dropped a) = refl

drop_taker : (at : ℕ) (life : Life) → taker (drop_life at life) ≡ taker life
drop_taker at Pending = refl
drop_taker at (Taken o a) = refl
drop_taker at (Back o a b) = refl
drop_taker at (Dropped a) = refl

written_was : (at : ℕ) (x : Recorded) → Was (Some x) (Some (with_back at x))
written_was at x = changed_was x (with_back at x) refl (back_taker at x.life)

dropped_was : (at : ℕ) (x : Recorded) → Was (Some x) (Some (with_drop at x))
dropped_was at x = changed_was x (with_drop at x) refl (drop_taker at x.life)

-- ---- or an answer of this call took it

abbrev Takes : ℕ → BookState → BookState → Answers → Type 0
Takes at s t answers =
    (w n opening entry : ℕ) (item : Item) → WasTaken t w n item opening entry → WasTaken s w n item opening entry
    ⊎ ((entry ≡ at) × HasItsAnswer answers n item opening)

-- the item that the answer takes
own_take : (at : ℕ) (s : BookState) (r : Asker) (n opening entry : ℕ) (item : Item) → (piece_for s r).taken ≡ Some n
    → IsTakenBy s r at n → WasTaken (after_answer s r at) (window_of s.owners r.opening) n item opening entry
    → (entry ≡ at) × HasItsAnswer ((r, piece_for s r) ∷ []) n item opening
own_take at s r n opening entry item takes t h =
    let e : as_recorded t.item (Taken r.opening at) ≡ as_recorded item h.life =
    some_same (as_recorded t.item (Taken r.opening at)) (as_recorded item h.life) (sym t.after ∙ h.is) in
    let own : ◌≡◌ {A = ℕ × ℕ} (r.opening, at) (opening, entry) = some_same {A = ℕ × ℕ} (r.opening, at) (opening, entry)
    (ap (λ (x : Recorded). taker x.life) e ∙ h.taken) in (
      sym (ap (λ (x : ℕ × ℕ). x.1) own),
      record {
        place = 0;
        asker = r;
        piece = piece_for s r;
        is = refl;
        on = ap (λ (x : ℕ × ℕ). x.0) own;
        takes = takes;
        front = subst (λ (x : Item). (piece_for s r).bytes ≡ take r.count (spelling x))
            (ap (λ (x : Recorded). x.item) e) t.prefix;
        some = t.bytes;
      },
    )

some_take : (at : ℕ) (s : BookState) (r : Asker) (number : ℕ) → (piece_for s r).taken ≡ Some number
    → IsTakenBy s r at number → Takes at s (after_answer s r at) ((r, piece_for s r) ∷ [])
some_take at s r number takes t w n opening entry item h =
    (elim (w == window_of s.owners r.opening) as (λ b. (w == window_of s.owners r.opening) ≡ b → WasTaken s w n item
    opening entry ⊎ ((entry ≡ at) × HasItsAnswer ((r, piece_for s r) ∷ []) n item opening)) [
      | true ↦ λ own.
          (elim (n == number) as (λ b. (n == number) ≡ b → WasTaken s w n item opening entry
          ⊎ ((entry ≡ at) × HasItsAnswer ((r, piece_for s r) ∷ []) n item opening)) [
            | true ↦ λ same.
                let v : w ≡ window_of s.owners r.opening = eq_from_test w (window_of s.owners r.opening) own in
                let m : number ≡ n = sym (eq_from_test n number same) in
                inr (own_take at s r n opening entry item (takes ∙ ap Some m) (subst (IsTakenBy s r at) m t)
                (subst (λ (x : ℕ). WasTaken (after_answer s r at) x n item opening entry) v h))
            | false ↦ λ apart.
                let other : n ≢ number = grind (arith, nat_tests) in
                inl (subst (λ (x : Option Recorded). IsTakenAs x item opening entry) (t.others w n (inr other)) h)
          ]) refl
      | false ↦ λ apart.
          let other : w ≢ window_of s.owners r.opening = grind (arith, nat_tests) in
          inl (subst (λ (x : Option Recorded). IsTakenAs x item opening entry) (t.others w n (inl other)) h)
    ]) refl

answer_take : (at : ℕ) (s : BookState) (r : Asker) (taken : Option ℕ) → IsLawful s
    → (piece_for s r).taken ≡ taken → Takes at s (after_answer s r at) ((r, piece_for s r) ∷ [])
answer_take at s r None lawful e w n opening entry item h =
    inl (subst (λ (x : Option Recorded). IsTakenAs x item opening entry)
    (ap (λ (es : List Recorded). numbered es n) (none_taken s r at w lawful e)) h)
answer_take at s r (Some number) lawful e w n opening entry item h = some_take at s r number e
    (taken_with s r at number lawful e) w n opening entry item h

nothing_takes : (at : ℕ) (s t : BookState) → ((w n : ℕ) → Was (recorded_of s w n) (recorded_of t w n)) → Takes at s t []
nothing_takes at s t h w n opening entry item k = inl (h w n item opening entry k)

ask_takes : (at : ℕ) (s : BookState) (r : Asker) → IsLawful s → Takes at s (after_ask s r at) (given s (Ask r))
ask_takes at s r lawful =
    elim (read_waits s r) as (λ b. Takes at s (cond b (record s { reads = s.reads ++ r ∷ []; latest = at })
    (after_answer s r at)) (cond b [] ((r, piece_for s r) ∷ []))) [
      | true ↦ λ w n opening entry item k. inl k
      | false ↦ answer_take at s r (piece_for s r).taken lawful refl
    ]

next_takes : (at : ℕ) (s : BookState) (next : Option Asker) → IsLawful s
    → Takes at s (after_next next s at) (if_answered (option_map {U = Asker × Piece} (λ r. (r, piece_for s r)) next))
next_takes at s None lawful w n opening entry item k = inl k
next_takes at s (Some r) lawful w n opening entry item k = answer_take at s r (piece_for s r).taken lawful refl w n
    opening entry item k

made_takes : (at : ℕ) (s : BookState) (c : Making) → IsLawful s → Takes at s (made at s c) (given s c)
made_takes at s (Add w) lawful =
    nothing_takes at s (made at s (Add w))
    (with_items Was was w (enlisted (file_of s.files w) (next_opening s)) s.files lawful.rise
    (λ n. was (numbered (file_of s.files w).items n)))
made_takes at s (Put w item) lawful =
    nothing_takes at s (made at s (Put w item)) (with_items Was was w (with_item (file_of s.files w) item) s.files
    lawful.rise (pushed Was was item (fresh_was item) (file_of s.files w).items))
made_takes at s (Ask r) lawful = ask_takes at s r lawful
made_takes at s Serve lawful = next_takes at s (next_of s) lawful

front_get : {A : Type 0} (xs ys : List A) (k : ℕ) (v : A) → slice_get xs k ≡ Some v → slice_get (xs ++ ys) k ≡ Some v
front_get [] ys k v h = absurd (none_some v h)
front_get (x ∷ xs) ys zero v h = h
front_get (x ∷ xs) ys (suc k) v h = front_get xs ys k v h

-- the place in the second list, counted from the first
abbrev behind : {A : Type 0} → List A → ℕ → ℕ
behind [] k = k
behind (x ∷ xs) k = suc (behind xs k)

back_get : {A : Type 0} (xs ys : List A) (k : ℕ) → slice_get (xs ++ ys) (behind xs k) ≡ slice_get ys k
back_get [] ys k = refl
back_get (x ∷ xs) ys k = back_get xs ys k

has_front : (g more : Answers) (n : ℕ) (item : Item) (opening : ℕ) → HasItsAnswer g n item opening
    → HasItsAnswer (g ++ more) n item opening
has_front g more n item opening h = record {
  place = h.place;
  asker = h.asker;
  piece = h.piece;
  is = front_get {A = Asker × Piece} g more h.place (h.asker, h.piece) h.is;
  on = h.on;
  takes = h.takes;
  front = h.front;
  some = h.some;
}

has_back : (g more : Answers) (n : ℕ) (item : Item) (opening : ℕ) → HasItsAnswer more n item opening
    → HasItsAnswer (g ++ more) n item opening
has_back g more n item opening h = record {
  place = behind g h.place;
  asker = h.asker;
  piece = h.piece;
  is = back_get {A = Asker × Piece} g more h.place ∙ h.is;
  on = h.on;
  takes = h.takes;
  front = h.front;
  some = h.some;
}

pub takes_on : (first : BookState) (at : ℕ) (g : Answers) (s : BookState) (c : Making) → IsKept at s → CanMake s c
    → ((w n opening entry : ℕ) (item : Item) → WasTaken s w n item opening entry → WasTaken first w n item opening entry
    ⊎ ((entry ≡ at) × HasItsAnswer g n item opening))
    → (w n opening entry : ℕ) (item : Item) → WasTaken (made at s c) w n item opening entry
    → WasTaken first w n item opening entry ⊎ ((entry ≡ at) × HasItsAnswer (g ++ given s c) n item opening)
takes_on first at g s c k can h w n opening entry item taken =
    elim (made_takes at s c k.lawful w n opening entry item taken) [
      | inl before ↦ elim (h w n opening entry item before) [
        | inl first_was ↦ inl first_was
        | inr now ↦ inr (now.0, has_front g (given s c) n item opening now.1)
      ]
      | inr now ↦ inr (now.0, has_back g (given s c) n item opening now.1)
    ]

pub was_ended : (at : ℕ) (s : BookState) (c : Ending) → IsKept at s → (w n : ℕ)
    → Was (recorded_of s w n) (recorded_of (ended at s c) w n)
was_ended at s (Written v m) k =
    with_items Was was v (with_written (file_of s.files v) m at) s.files k.lawful.rise
    (written Was was at (written_was at) m (file_of s.files v).items)
was_ended at s (Cancel conn tag) k = λ w n. was (recorded_of s w n)
was_ended at s (Leave o) k =
    with_items Was was (window_of s.owners o) (left (file_on s o) o at) s.files k.lawful.rise
    (left_items Was was at (dropped_was at) (without_opening (file_on s o).openings o) (file_on s o))
was_ended at s (Delete v) k = with_items Was was v (deleted (file_of s.files v) at) s.files k.lawful.rise
    (closed Was was at (dropped_was at) (file_of s.files v).items)

-- ---- only openings of its window take an item

named_taker : (owners : List ℕ) (w opening entry : ℕ) (life : Life) → taker life ≡ Some (opening, entry)
    → IfSome (named life) (IsOwned owners w) → IsOwned owners w opening
named_taker owners w opening entry Pending t own = absurd (none_some {A = ℕ × ℕ} (opening, entry) t)
named_taker owners w opening entry (Taken o a) t own = let same : o ≡ opening = ap (λ (x : ℕ × ℕ). x.0)
    (some_same {A = ℕ × ℕ} (o, a) (opening, entry) t) in subst (IsOwned owners w) same own
named_taker owners w opening entry (Back o a b) t own = let same : o ≡ opening = ap (λ (x : ℕ × ℕ). x.0)
    (some_same {A = ℕ × ℕ} (o, a) (opening, entry) t) in subst (IsOwned owners w) same own
named_taker owners w opening entry (Dropped a) t own = absurd (none_some {A = ℕ × ℕ} (opening, entry) t)

named_at : (owners : List ℕ) (w : ℕ) (es : List Recorded) (k : ℕ) (r : Recorded) → AllNamed owners w es
    → slice_get es k ≡ Some r → IfSome (named r.life) (IsOwned owners w)
named_at owners w [] k r all is = absurd (none_some r is)
named_at owners w (e ∷ es) zero r all is = subst (λ (x : Recorded). IfSome (named x.life) (IsOwned owners w))
    (some_same e r is) all.0
named_at owners w (e ∷ es) (suc k) r all is = named_at owners w es k r all.1 is

named_number : (owners : List ℕ) (w : ℕ) (es : List Recorded) (n : ℕ) (r : Recorded) → AllNamed owners w es
    → numbered es n ≡ Some r → IfSome (named r.life) (IsOwned owners w)
named_number owners w es zero r all is = absurd (none_some r is)
named_number owners w es (suc k) r all is = named_at owners w es k r all is

pub taken_window : (s : BookState) (w n opening entry : ℕ) (item : Item) → IsLawful s
    → WasTaken s w n item opening entry → window_of s.owners opening ≡ w
taken_window s w n opening entry item lawful h =
    owner-window s.owners w opening
    (named_taker s.owners w opening entry h.life h.taken (named_number s.owners w (file_of s.files w).items n
    (as_recorded item h.life) (lawful.files w).takers h.is))
