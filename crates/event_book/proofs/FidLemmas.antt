-- What each call does to what an opening was given.
use Rattle.std.proofs.Common.{◌≡◌, ◌≢◌, ◌==◌, ◌&&◌, ℕ, zero, suc, ◌+◌, ◌-◌, ◌<◌, Bool, true, false, not, cond, List, []}
use Rattle.std.proofs.Common.{◌∷◌, ◌++◌, length, take, find, slice_get, Option, Some, None, IfSome, refl, sym, ap, ◌∙◌}
use Rattle.std.proofs.Common.{subst, arith, add-one, add-zero, ◌⊎◌, inl, inr, Ok}
use Rattle.std.specs.Option.{option_map}
use Rattle.std.specs.List.{list_any}
use Rattle.std.proofs.lemmas.List.{length-append, take_at}
use Rattle.std.proofs.lemmas.Bool.Decides.{nat_tests}
use Rattle.win_events.specs.Spelling.{spelling, message}
use Rattle.win_events.specs.declared.item.Item.{Item}
use Rattle.win_events.specs.declared.item.Life.{Life}
use Rattle.win_events.specs.declared.item.Life.TheVariants.{Pending, Taken, Back, Dropped}
use Rattle.wait_queue.specs.Carry.{OpenCarry, carry_of, without_opening}
use Rattle.wait_queue.specs.Reads.{is_read, without_read, without_reads_on}
use Rattle.wait_queue.specs.WaitState.{piece_of}
use Rattle.wait_queue.specs.declared.types.Asker.{Asker}
use Rattle.wait_queue.specs.declared.types.Piece.{Piece}
use Rattle.wait_queue.specs.declared.types.Asked.{Asked}
use Rattle.wait_queue.specs.declared.types.Asked.TheVariants.{Now, Waits}
use Rattle.wait_queue.proofs.LawLemmas.{leaves}
use Rattle.wait_queue.specs.WaitState.{piece_from}
use Rattle.wait_queue.specs.declared.pending.Pending.{Pending as QueueItem}
use Rattle.event_book.specs.Lives.{is_pending, is_taken, has_taken, pends, take_first, pending_from, numbered}
use Rattle.event_book.specs.Lives.{back_life, written_back}
use Rattle.event_book.specs.Finding.{fits, is_open_fit, is_back_fit, or_else, last_from, found_or}
use Rattle.event_book.specs.WindowFiles.{EventFile, queue_of, items_after, enlisted, with_item, given, with_written}
use Rattle.event_book.specs.WindowFiles.{left_with, left, deleted, file_of, with_file}
use Rattle.event_book.specs.BookState.{BookState, recorded_of, is_taken_of, window_of, file_on, is_living, after_add}
use Rattle.event_book.specs.BookState.{read_waits, piece_for, after_answer, is_ready, next_of, after_written}
use Rattle.event_book.specs.BookState.{after_leave, after_delete}
use Rattle.event_book.specs.Laws.{IsOwned, AllNamed, named, took, TakenWithItsAnswer, NoneTakenNoneChanged, spelled_in}
use Rattle.event_book.specs.Laws.{spelled, carry, given_to, IsRest, IsLawful, WhatAFidGets, WindowOrder}
use Rattle.event_book.specs.Laws.{BeginsWithNothing, AskAppends, ServeAppends, Same, AskLeavesOthers, ServeLeavesOthers}
use Rattle.event_book.specs.Laws.{NothingElseGives, CancelledIsNotNext, FoundFits, WrittenOnce}
use Rattle.event_book.specs.declared.lives.Recorded.{Recorded}
use Rattle.event_book.proofs.TableLemmas.{eq_from_test, true_false}
use Rattle.event_book.proofs.OrderLemmas.{spelled-push, spelled-written, spelled-dropped, owned-last, not_owned}
use Rattle.event_book.proofs.BookLemmas.{same_window, other_window, joined-given, spelled-after_other, carry-enlisted}
use Rattle.event_book.proofs.BookLemmas.{carry-without}
use Rattle.event_book.proofs.LawfulLemmas.{next-living, window-more, owner-window}

-- ---- what was given, by what is joined with the carry

given_is : (before rest whole : List ℕ) → before ++ rest ≡ whole → take (length whole - length rest) whole ≡ before
given_is before rest whole h =
    let front : length before ≡ length whole - length rest =
    (let both = length-append before rest in let same = ap length h in omega (arith, both, same))
    in
    ap (take (length whole - length rest)) (sym h) ∙ take_at before rest (length whole - length rest) front

pub given-before : (s : BookState) (o : ℕ) (h : IsRest (file_on s o).items o (carry s o)) → given_to s o ≡ h.before
given-before s o h = given_is h.before (carry s o) (spelled s o) h.joined

pub rest-on : (s : BookState) (o : ℕ) → IsLawful s → IsRest (file_on s o).items o (carry s o)
rest-on s o h = (h.files (window_of s.owners o)).rests o

pub gets : (s : BookState) → IsLawful s → WhatAFidGets s
gets s h o l =
    let rest = rest-on s o h in
    record {
      joined = ap (λ t. t ++ carry s o) (given-before s o rest) ∙ rest.joined;
      proper = rest.proper;
    }

pub in_order : (s : BookState) → IsLawful s → WindowOrder s
in_order s h w = ((h.files w).order, (h.files w).closed)

-- ---- an answer

-- the file on the read's opening after the answer
answered : (s : BookState) (r : Asker) (at : ℕ) → IsLawful s → file_on (after_answer s r at)
    r.opening ≡ given (file_on s r.opening) r at
answered s r at h = same_window 0 (window_of s.owners r.opening) (given (file_on s r.opening) r at) s.files h.rise

given_with : (f : EventFile) (o : ℕ) → List ℕ
given_with f o = take (length (spelled_in o f.items) - length (carry_of f.openings o)) (spelled_in o f.items)

pub answer-appends : (s : BookState) (r : Asker) (at : ℕ) → IsLawful s
    → is_living s r.opening ≡ true → given_to (after_answer s r at) r.opening ≡ given_to s r.opening
    ++ (piece_for s r).bytes
answer-appends s r at h l =
    let f = file_on s r.opening in
    let rest = rest-on s r.opening h in
    let order = (h.files (window_of s.owners r.opening)).order in
    ap (λ (g : EventFile). take (length (spelled_in r.opening g.items) - length (carry_of g.openings r.opening))
    (spelled_in r.opening g.items)) (answered s r at h)
    ∙ given_is (rest.before ++ (piece_for s r).bytes) (carry_of (given f r at).openings r.opening)
    (spelled_in r.opening (given f r at).items) (joined-given f r s.latest at order l rest)
    ∙ ap (λ t. t ++ (piece_for s r).bytes) (sym (given-before s r.opening rest))

-- what is the same of two files
same-given : (f g : EventFile) (o : ℕ) → spelled_in o g.items ≡ spelled_in o f.items
    → carry_of g.openings o ≡ carry_of f.openings o → (take (length (spelled_in o g.items) - length
    (carry_of g.openings o)) (spelled_in o g.items) ≡ take (length (spelled_in o f.items) - length
    (carry_of f.openings o)) (spelled_in o f.items)) × (carry_of g.openings o ≡ carry_of f.openings o)
same-given f g o s c = (rw (s, c), c)

-- a state whose file on the opening took as much, and has as much left
same-on : (s t : BookState) (o : ℕ) → spelled_in o (file_on t o).items ≡ spelled_in o (file_on s o).items
    → carry_of (file_on t o).openings o ≡ carry_of (file_on s o).openings o → Same s t o
same-on s t o a b = same-given (file_on s o) (file_on t o) o a b

-- one file changed, which took as much for the opening
same-with : (s : BookState) (w : ℕ) (f : EventFile) (latest o : ℕ) (reads : List Asker) → IsLawful s
    → spelled_in o f.items ≡ spelled_in o (file_of s.files w).items
    → carry_of f.openings o ≡ carry_of (file_of s.files w).openings o
    → Same s (record { files = with_file w f s.files; owners = s.owners; reads = reads; latest = latest }) o
same-with s w f latest o reads h a b =
    (elim (window_of s.owners o == w) as (λ t. (window_of s.owners o == w) ≡ t → Same s
    (record { files = with_file w f s.files; owners = s.owners; reads = reads; latest = latest }) o) [
      | true ↦ λ e.
          let same = eq_from_test (window_of s.owners o) w e in
          let file : file_of (with_file w f s.files) (window_of s.owners o) ≡ f =
          (subst (λ v. file_of (with_file w f s.files) v ≡ f) (sym same) (same_window 0 w f s.files h.rise))
          in
          let before : file_of s.files w ≡ file_on s o = ap (file_of s.files) (sym same) in
          same-on s (record { files = with_file w f s.files; owners = s.owners; reads = reads; latest = latest }) o
          (ap (λ (g : EventFile). spelled_in o g.items) file ∙ a ∙ ap (λ (g : EventFile). spelled_in o g.items) before)
          (ap (λ (g : EventFile). carry_of g.openings o) file ∙ b ∙ ap (λ (g : EventFile). carry_of g.openings o)
          before)
      | false ↦ λ e.
          let other : window_of s.owners o ≢ w = grind (arith, nat_tests) in
          let file : file_of (with_file w f s.files) (window_of s.owners o) ≡ file_on s o =
          other_window w (window_of s.owners o) f s.files other
          in
          same-on s (record { files = with_file w f s.files; owners = s.owners; reads = reads; latest = latest }) o
          (ap (λ (g : EventFile). spelled_in o g.items) file)
          (ap (λ (g : EventFile). carry_of g.openings o) file)
    ]) refl

pub answer-others : (s : BookState) (r : Asker) (at o : ℕ) → IsLawful s → o ≢ r.opening → Same s (after_answer s r at) o
answer-others s r at o h n =
    let f = file_on s r.opening in
    same-with s (window_of s.owners r.opening) (given f r at) at o s.reads h
    (spelled-after_other (piece_of (queue_of f) r).taken o r.opening at f.items n)
    (leaves (queue_of f) r o n)

-- ---- the calls

now_is : (b : Bool) (p q : Piece) → ◌≡◌ {A = Asked} (cond b Waits (Now p)) (Now q) → (b ≡ false) × (p ≡ q)
now_is true p q h = cc
now_is false p q h = (refl, cc)

pub ask_appends : AskAppends
ask_appends s r at piece h l a =
    let now = now_is (read_waits s r) (piece_for s r) piece a in
    rw now.0 (answer-appends s r at h l ∙ ap (λ (p : Piece). given_to s r.opening ++ p.bytes) now.1)

some_same : {A : Type 0} (a b : A) → Some a ≡ Some b → a ≡ b
some_same a b h = cc

pub served_is : (next : Option Asker) (piece : Asker → Piece) (r : Asker) (p : Piece)
    → option_map {U = Asker × Piece} (λ r. (r, piece r)) next ≡ Some (r, p) → (next ≡ Some r) × (piece r ≡ p)
served_is None piece r p h = cc
served_is (Some x) piece r p h =
    let same : ◌≡◌ {A = Asker × Piece} (x, piece x) (r, p) = some_same {A = Asker × Piece} (x, piece x) (r, p) h in
    let first : x ≡ r = ap (λ (t : Asker × Piece). t.0) same in
    (ap Some first, sym (ap piece first) ∙ ap (λ (t : Asker × Piece). t.1) same)

pub serve_appends : ServeAppends
serve_appends s at r piece h e =
    let is = served_is (next_of s) (piece_for s) r piece e in
    let l = next-living s r h.living is.0 in
    rw is.0
    (answer-appends s r at h l ∙ ap (λ (p : Piece). given_to s r.opening ++ p.bytes) is.1)

ask-waits : (s : BookState) (r : Asker) (at o : ℕ) → Same s (record s { reads = s.reads ++ r ∷ []; latest = at }) o
ask-waits s r at o = (refl, refl)

pub ask_leaves_others : AskLeavesOthers
ask_leaves_others s r at o h l n k =
    elim (read_waits s r) as (λ b. Same s (cond b (record s { reads = s.reads ++ r ∷ []; latest = at })
    (after_answer s r at)) o)
    [ true ↦ ask-waits s r at o | false ↦ answer-others s r at o h n ]

pub serve_leaves_others : ServeLeavesOthers
serve_leaves_others s at r piece o h e n k =
    let is = served_is (next_of s) (piece_for s) r piece e in
    rw is.0 (answer-others s r at o h n)

unnamed_by : (owners : List ℕ) (w o b : ℕ) (own rest : List ℕ) → (IsOwned owners w o → ⊥) → IsOwned owners w b
    → rest ≡ [] → cond (b == o) (own ++ rest) rest ≡ []
unnamed_by owners w o b own rest n k h =
    (elim (b == o) as (λ t. (b == o) ≡ t → cond t (own ++ rest) rest ≡ []) [
      | true ↦ λ e. absurd (n (subst (IsOwned owners w) (eq_from_test b o e) k))
      | false ↦ λ e. h
    ]) refl

-- no item names an opening that was never added
unnamed : (owners : List ℕ) (w o : ℕ) (es : List Recorded) → (IsOwned owners w o → ⊥) → AllNamed owners w es
    → spelled_in o es ≡ []
unnamed owners w o [] n h = refl
unnamed owners w o (e ∷ es) n h =
    let rest = unnamed owners w o es n h.1 in
    (elim e.life as (λ l. IfSome (named l) (IsOwned owners w) → cond (took o l) (spelling e.item ++ spelled_in o es)
    (spelled_in o es) ≡ []) [
      | Pending ↦ λ k. rest
      | Taken b a ↦ λ k. unnamed_by owners w o b (spelling e.item) (spelled_in o es) n k rest
      | Back b a c ↦ λ k. unnamed_by owners w o b (spelling e.item) (spelled_in o es) n k rest
      | Dropped a ↦ λ k. rest
    ]) h.0

take_nil : (n : ℕ) → take {A = ℕ} n [] ≡ []
take_nil zero = refl
take_nil (suc n) = refl

nothing_given : (es : List ℕ) (n : ℕ) → es ≡ [] → take n es ≡ []
nothing_given es n h = ap (take n) h ∙ take_nil n

pub begins : BeginsWithNothing
begins s w h =
    let x = length s.owners + 1 in
    let f = enlisted (file_of s.files w) x in
    let own : IsOwned (s.owners ++ w ∷ []) w x = rw add-one (owned-last s.owners w) in
    let not_own : IsOwned s.owners w x → ⊥ = (λ k. not_owned s.owners w (rw add-one at k)) in
    let window : window_of (s.owners ++ w ∷ []) x ≡ w = owner-window (s.owners ++ w ∷ []) w x own in
    let file : file_on (after_add s w) x ≡ f =
    (ap (file_of (with_file w f s.files)) window ∙ same_window 0 w f s.files h.rise)
    in
    let none : spelled (after_add s w) x ≡ [] =
    (ap (λ (g : EventFile). spelled_in x g.items) file ∙ unnamed s.owners w x (file_of s.files w).items not_own
    (h.files w).takers)
    in
    nothing_given (spelled (after_add s w) x) (length (spelled (after_add s w) x) - length (carry (after_add s w) x))
    none

same-add : (s : BookState) (w o : ℕ) → IsLawful s → is_living s o ≡ true → Same s (after_add s w) o
same-add s w o h l =
    let x = length s.owners + 1 in
    let f = enlisted (file_of s.files w) x in
    let more = window-more s (w ∷ []) o h l in
    subst (λ v. (take (length (spelled_in o (file_of (with_file w f s.files) v).items) - length
    (carry_of (file_of (with_file w f s.files) v).openings o))
    (spelled_in o (file_of (with_file w f s.files) v).items) ≡ given_to s o)
    × (carry_of (file_of (with_file w f s.files) v).openings o ≡ carry s o)) (sym more)
    (same-with s w f s.latest o s.reads h refl (carry-enlisted (file_of s.files w).openings x o))

left-spelled : (cs : List OpenCarry) (at o : ℕ) (f : EventFile) → spelled_in o (left_with cs at f).items
    ≡ spelled_in o f.items
left-spelled [] at o f = spelled-dropped o at f.items
left-spelled (c ∷ cs) at o f = refl

left-carry : (cs : List OpenCarry) (at o : ℕ) (f : EventFile) → carry_of (left_with cs at f).openings o ≡ carry_of cs o
left-carry [] at o f = refl
left-carry (c ∷ cs) at o f = refl

same-leave : (s : BookState) (other at o : ℕ) → IsLawful s → other ≢ o → Same s (after_leave s other at) o
same-leave s other at o h n =
    let f = file_on s other in
    let not_it : o ≢ other = (λ e. n (sym e)) in
    same-with s (window_of s.owners other) (left f other at) at o (without_reads_on s.reads other) h
    (left-spelled (without_opening f.openings other) at o f)
    (left-carry (without_opening f.openings other) at o f ∙ carry-without f.openings other o not_it)

same-delete : (s : BookState) (w at o : ℕ) → IsLawful s → w ≢ window_of s.owners o → Same s (after_delete s w at) o
same-delete s w at o h n =
    let f = deleted (file_of s.files w) at in
    let not_it : window_of s.owners o ≢ w = (λ e. n (sym e)) in
    let file : file_of (with_file w f s.files) (window_of s.owners o) ≡ file_on s o =
    other_window w (window_of s.owners o) f s.files not_it
    in
    same-on s (after_delete s w at) o
    (ap (λ (g : EventFile). spelled_in o g.items) file)
    (ap (λ (g : EventFile). carry_of g.openings o) file)

idle-serve : (s : BookState) (o : ℕ) → Same s s o
idle-serve s o = (refl, refl)

pub nothing_else : NothingElseGives
nothing_else s o h l = record {
  add = λ w. same-add s w o h l;
  put = λ w item. same-with s w (with_item (file_of s.files w) item) s.latest o s.reads h
      (spelled-push o (file_of s.files w).items item) refl;
  waits = λ r at e. rw e (ask-waits s r at o);
  idle = λ at e. rw e (idle-serve s o);
  written = λ w number at. same-with s w (with_written (file_of s.files w) number at) at o s.reads h
      (spelled-written o at number (file_of s.files w).items) refl;
  cancel = λ conn tag. (refl, refl);
  leave = λ other at n. same-leave s other at o h n;
  delete = λ w at n. same-delete s w at o h n;
}

not_found : (p : Asker → Bool) (rs : List Asker) (conn tag : ℕ) (r : Asker) → find p (without_read rs conn tag) ≡ Some r
    → is_read conn tag r ≡ false
not_found p [] conn tag r h = cc
not_found p (x ∷ xs) conn tag r h =
    (elim (is_read conn tag x) as (λ b. is_read conn tag x ≡ b → find p
    (cond (not b) (x ∷ without_read xs conn tag) (without_read xs conn tag)) ≡ Some r → is_read conn tag r ≡ false) [
      | true ↦ λ e k. not_found p xs conn tag r k
      | false ↦ λ e k.
          (elim (p x) as (λ b. cond b (Some x) (find p (without_read xs conn tag)) ≡ Some r
          → is_read conn tag r ≡ false) [
            | true ↦ λ k. let same : x ≡ r = cc in sym (ap (is_read conn tag) same)
                ∙ e
            | false ↦ λ k. not_found p xs conn tag r k
          ]) k
    ]) refl h

pub cancelled_not_next : CancelledIsNotNext
cancelled_not_next s conn tag r h = not_found (is_ready s.files s.owners) s.reads conn tag r h

-- ---- the item that an answer takes

record FirstPending (n : ℕ) (es : List Recorded) (life : Life) (q : QueueItem) : Type 0 where
  place : ℕ
  item : Item
  number : q.number ≡ n + place
  before : slice_get es place ≡ Some (record { item = item; life = Pending })
  after : slice_get (take_first life es) place ≡ Some (record { item = item; life = life })
  bytes : q.bytes ≡ spelling item
  others : (k : ℕ) → k ≢ place → slice_get (take_first life es) k ≡ slice_get es k

-- a change of the first of some items leaves the later ones
later-same : (x y : Recorded) (es : List Recorded) (k : ℕ) → k ≢ 0 → slice_get (x ∷ es) k ≡ slice_get (y ∷ es) k
later-same x y es zero n = absurd (n refl)
later-same x y es (suc k) n = refl

-- and one of the later ones leaves the first
with-first : (x : Recorded) (xs ys : List Recorded) (place k : ℕ) →
    ((j : ℕ) → j ≢ place → slice_get xs j ≡ slice_get ys j) → k ≢ suc place
    → slice_get (x ∷ xs) k ≡ slice_get (x ∷ ys) k
with-first x xs ys place zero h n = refl
with-first x xs ys place (suc k) h n = h k (λ e. n (ap suc e))

is_pending-life : (life : Life) → is_pending life ≡ true → life ≡ Pending
is_pending-life Pending h = refl
is_pending-life (Taken o a) h = cc
is_pending-life (Back o a b) h = cc
is_pending-life (Dropped a) h = cc

abbrev with_life : Item → Life → Recorded
with_life item life = record { item = item; life = life }

pends-is : (e : Recorded) → pends e ≡ true → e ≡ record { item = e.item; life = Pending }
pends-is e h = ap (λ (l : Life). with_life e.item l) (is_pending-life e.life h)

nil_cons : (q : QueueItem) (qs : List QueueItem) → [] ≡ q ∷ qs → ⊥
nil_cons q qs h = cc

none_some : (n : ℕ) → ◌≡◌ {A = Option ℕ} None (Some n) → ⊥
none_some n h = cc

first_is : (x q : QueueItem) (xs qs : List QueueItem) → x ∷ xs ≡ q ∷ qs → x ≡ q
first_is x q xs qs h = cc

first_pending : (n : ℕ) (es : List Recorded) (life : Life) (q : QueueItem) (qs : List QueueItem)
    → pending_from n es ≡ q ∷ qs → FirstPending n es life q
first_pending n [] life q qs h = absurd (nil_cons q qs h)
first_pending n (e ∷ es) life q qs h =
    (elim (pends e) as (λ b. pends e ≡ b → cond b (record { number = n; bytes = spelling e.item } ∷ pending_from (suc n)
    es) (pending_from (suc n) es) ≡ q ∷ qs → FirstPending n (e ∷ es) life q) [
      | true ↦ λ t k.
          let same = first_is (record { number = n; bytes = spelling e.item }) q (pending_from (suc n) es) qs k in
          record {
            place = 0;
            item = e.item;
            number = sym (ap (λ (x : QueueItem). x.number) same) ∙ sym (add-zero n);
            before = ap Some (pends-is e t);
            after = rw t refl;
            bytes = sym (ap (λ (x : QueueItem). x.bytes) same);
            others = λ k n. rw t (later-same (record { item = e.item; life = life }) e es k n);
          }
      | false ↦ λ t k.
          let rest = first_pending (suc n) es life q qs k in
          record {
            place = suc rest.place;
            item = rest.item;
            number = (let e = rest.number in omega (arith, e));
            before = rest.before;
            after = rw t rest.after;
            bytes = rest.bytes;
            others = λ k n. rw t (with-first e (take_first life es) es rest.place k rest.others n);
          }
    ]) refl h

record TakenFirst (none : Bool) (qs : List QueueItem) (count number : ℕ) (bytes : List ℕ) : Type 0 where
  q : QueueItem
  rest : List QueueItem
  is : qs ≡ q ∷ rest
  number_is : q.number ≡ number
  bytes_is : bytes ≡ take count q.bytes
  some : none ≡ false

taken_first : (none : Bool) (carry : List ℕ) (qs : List QueueItem) (count number : ℕ)
    → (cond none (record { bytes = []; taken = None }) (piece_from carry qs count)).taken ≡ Some number
    → TakenFirst none qs count number (cond none (record { bytes = []; taken = None })
    (piece_from carry qs count)).bytes
taken_first true carry qs count number h = absurd (none_some number h)
taken_first false (b ∷ bs) qs count number h = absurd (none_some number h)
taken_first false [] [] count number h = absurd (none_some number h)
taken_first false [] (q ∷ qs) count number h = record {
  q = q;
  rest = qs;
  is = refl;
  number_is = cc;
  bytes_is = refl;
  some = refl;
}

-- a spelling begins with a letter
spelling-some : (item : Item) → 0 < length (spelling item)
unfolding spelling message
spelling-some item = omega arith

not_nil : (xs : List ℕ) → 0 < length xs → xs ≢ []
not_nil [] l h = absurd (omega arith)
not_nil (x ∷ xs) l h = cc

length-take_some : (n : ℕ) (xs : List ℕ) → 0 < n → 0 < length xs → 0 < length (take n xs)
length-take_some zero xs l h = absurd (omega arith)
length-take_some (suc n) [] l h = absurd (omega arith)
length-take_some (suc n) (x ∷ xs) l h = omega arith

numbered-others : (es es' : List Recorded) (place n : ℕ) → ((k : ℕ) → k ≢ place → slice_get es' k ≡ slice_get es k)
    → n ≢ suc place → numbered es' n ≡ numbered es n
numbered-others es es' place zero h n = refl
numbered-others es es' place (suc k) h n = h k (λ e. n (ap suc e))

-- where one window's items changed at one number alone
others-same : (s : BookState) (w number v other : ℕ) (f : EventFile) → IsLawful s
    → (other ≢ number → numbered f.items other ≡ numbered (file_of s.files w).items other) → (v ≢ w) ⊎ (other ≢ number)
    → numbered (file_of (with_file w f s.files) v).items other ≡ numbered (file_of s.files v).items other
others-same s w number v other f h own d =
    (elim (v == w) as (λ b. (v == w) ≡ b → numbered (file_of (with_file w f s.files) v).items
    other ≡ numbered (file_of s.files v).items other) [
      | true ↦ λ e.
          let same = eq_from_test v w e in
          let not_it : other ≢ number = elim d [ inl n ↦ absurd (n same) | inr n ↦ n ] in
          subst (λ x. numbered (file_of (with_file w f s.files) x).items other ≡ numbered (file_of s.files x).items
          other) (sym same)
          (ap (λ (g : EventFile). numbered g.items other) (same_window 0 w f s.files h.rise) ∙ own not_it)
      | false ↦ λ e.
          let apart : v ≢ w = grind (arith, nat_tests) in
          ap (λ (g : EventFile). numbered g.items other) (other_window w v f s.files apart)
    ]) refl

pub taken_with : TakenWithItsAnswer
taken_with s r at number h t =
    let w = window_of s.owners r.opening in
    let f = file_on s r.opening in
    let first = taken_first (r.count == 0) (carry_of f.openings r.opening) (pending_from 1 f.items) r.count number t in
    let found = first_pending 1 f.items (Taken r.opening at) first.q first.rest first.is in
    let is : number ≡ suc found.place = (let a = first.number_is in let b = found.number in omega (arith, a, b)) in
    let count : 0 < r.count = (let some = first.some in grind (arith, nat_tests)) in
    let file = same_window 0 w (given f r at) s.files h.rise in
    let items : (file_of (after_answer s r at).files w).items ≡ take_first (Taken r.opening at) f.items =
    (ap (λ (g : EventFile). g.items) file ∙ ap (λ o. items_after o (Taken r.opening at) f.items) t)
    in
    let prefix : (piece_for s r).bytes ≡ take r.count (spelling found.item) =
    (first.bytes_is ∙ ap (take r.count) found.bytes)
    in
    record {
      item = found.item;
      before = ap (numbered f.items) is ∙ found.before;
      after = ap (λ es. numbered es number) items ∙ ap (numbered (take_first (Taken r.opening at) f.items)) is
          ∙ found.after;
      prefix = prefix;
      bytes = subst (λ bs. bs ≢ []) (sym prefix) (not_nil (take r.count (spelling found.item))
          (length-take_some r.count (spelling found.item) count (spelling-some found.item)));
      others = λ v other d. others-same s w number v other (given f r at) h
          (λ n. ap (λ o. numbered (items_after o (Taken r.opening at) f.items) other) t
          ∙ numbered-others f.items (take_first (Taken r.opening at) f.items) found.place other found.others
          (λ e. n (e ∙ sym is))) d;
    }

pub none_taken : NoneTakenNoneChanged
none_taken s r at window h t =
    let w = window_of s.owners r.opening in
    let f = file_on s r.opening in
    (elim (window == w) as (λ b. (window == w) ≡ b → (file_of (after_answer s r at).files window).items
    ≡ (file_of s.files window).items) [
      | true ↦ λ e.
          let same = eq_from_test window w e in
          subst (λ v. (file_of (after_answer s r at).files v).items ≡ (file_of s.files v).items) (sym same)
          (ap (λ (g : EventFile). g.items) (same_window 0 w (given f r at) s.files h.rise)
          ∙ ap (λ o. items_after o (Taken r.opening at) f.items) t)
      | false ↦ λ e.
          let other : window ≢ w = grind (arith, nat_tests) in
          ap (λ (g : EventFile). g.items) (other_window w window (given f r at) s.files other)
    ]) refl

-- ---- what is found

record PassesAt (p : Recorded → Bool) (k : ℕ) (es : List Recorded) (n : ℕ) : Type 0 where
  place : ℕ
  one : Recorded
  number : n ≡ k + place
  is : slice_get es place ≡ Some one
  passes : p one ≡ true

or_else_is : (later : Option ℕ) (b : Bool) (k n : ℕ) → or_else later b k ≡ Some n → (later ≡ Some n)
    ⊎ ((b ≡ true) × (k ≡ n))
or_else_is (Some later) b k n h = inl h
or_else_is None true k n h = inr (refl, cc)
or_else_is None false k n h = absurd (none_some n h)

last_passes : (p : Recorded → Bool) (k : ℕ) (es : List Recorded) (n : ℕ) → last_from p k es ≡ Some n → PassesAt p k es n
last_passes p k [] n h = absurd (none_some n h)
last_passes p k (e ∷ es) n h =
    elim (or_else_is (last_from p (suc k) es) (p e) k n h) [
      | inl later ↦
          let rest = last_passes p (suc k) es n later in
          record {
            place = suc rest.place;
            one = rest.one;
            number = (let a = rest.number in omega (arith, a));
            is = rest.is;
            passes = rest.passes;
          }
      | inr own ↦
          let same = own.1 in
          record { place = 0; one = e; number = omega (arith, same); is = refl; passes = own.0 }
    ]

found_is : (last : Option ℕ) (any : Bool) (n : ℕ) → found_or last any ≡ Ok n → last ≡ Some n
found_is (Some m) any n h = cc
found_is None true n h = cc
found_is None false n h = cc

both_pass : (a b : Bool) → (a && b) ≡ true → (a ≡ true) × (b ≡ true)
both_pass true b h = (refl, h)
both_pass false b h = cc

pub found_fits : FoundFits
found_fits s w number m h =
    let es = (file_of s.files w).items in
    let at = last_passes (is_open_fit m) 1 es number (found_is (last_from (is_open_fit m) 1 es)
    (list_any (is_back_fit m) es) number h) in
    let is : number ≡ suc at.place = (let a = at.number in omega (arith, a)) in
    let here : recorded_of s w number ≡ Some at.one = (ap (numbered es) is ∙ at.is) in
    let pass = both_pass (is_taken at.one.life) (fits m at.one.item) at.passes in
    record {
      item = at.one.item;
      is = ap (option_map (λ (e : Recorded). e.item)) here;
      taken = ap has_taken here ∙ pass.0;
      fit = pass.1;
    }

back_not_taken : (at : ℕ) (life : Life) → is_taken (back_life at life) ≡ false
back_not_taken at Pending = refl
back_not_taken at (Taken o a) = refl
back_not_taken at (Back o a b) = refl
back_not_taken at (Dropped a) = refl

written_not_taken : (at number : ℕ) (es : List Recorded) → has_taken (numbered (written_back at number es) number)
    ≡ false
written_not_taken at zero es = refl
written_not_taken at (suc n) [] = refl
written_not_taken at (suc zero) (e ∷ es) = back_not_taken at e.life
written_not_taken at (suc (suc n)) (e ∷ es) = written_not_taken at (suc n) es

pub written_back_once : WrittenOnce
written_back_once s w number at m h f =
    let found = found_fits (after_written s w number at) w number m f in
    let file = same_window 0 w (with_written (file_of s.files w) number at) s.files h.rise in
    let no : is_taken_of (after_written s w number at) w number ≡ false =
    (ap (λ (g : EventFile). has_taken (numbered g.items number)) file
    ∙ written_not_taken at number (file_of s.files w).items)
    in
    true_false (is_taken_of (after_written s w number at) w number) found.taken no
