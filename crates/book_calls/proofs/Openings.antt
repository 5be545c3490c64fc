-- What an opening was given, over each call.
use Rattle.std.proofs.Common.{◌≡◌, ◌≢◌, ◌==◌, ◌||◌, ℕ, zero, suc, ◌+◌, ◌-◌, ◌≤◌, true, false, not, cond, List, [], ◌∷◌}
use Rattle.std.proofs.Common.{◌++◌, length, slice_get, Option, Some, None, IfSome, refl, sym, ap, ◌∙◌, subst, arith}
use Rattle.std.proofs.Common.{add-one, append_assoc, append-nil}
use Rattle.std.specs.Option.{option_map, unwrap_or}
use Rattle.std.specs.List.{list_any}
use Rattle.std.proofs.lemmas.Bool.Decides.{nat_tests}
use Rattle.win_events.specs.Spelling.{spelling}
use Rattle.win_events.specs.declared.item.Item.{Item}
use Rattle.win_events.specs.declared.item.Life.TheVariants.{Pending, Taken, Back, Dropped}
use Rattle.wait_queue.specs.Carry.{OpenCarry, carry_of, without_opening, is_of}
use Rattle.wait_queue.specs.WaitState.{piece_of}
use Rattle.wait_queue.specs.declared.types.Asker.{Asker}
use Rattle.wait_queue.specs.declared.types.Piece.{Piece}
use Rattle.wait_queue.proofs.LawLemmas.{leaves}
use Rattle.event_book.specs.WindowFiles.{EventFile, queue_of, is_enlisted, enlisted, with_item, items_after}
use Rattle.event_book.specs.WindowFiles.{given as after_given, with_written, left_with, left, deleted, file_of}
use Rattle.event_book.specs.WindowFiles.{with_file}
use Rattle.event_book.specs.BookState.{BookState, window_of, file_on, is_living, next_opening, read_waits, piece_for}
use Rattle.event_book.specs.BookState.{after_add, after_answer, after_ask, next_of, after_next}
use Rattle.event_book.specs.Laws.{IsOwned, AllNamed, named, took, spelled_in, last_spelled, IsRest, IsLawful}
use Rattle.event_book.specs.declared.lives.Recorded.{Recorded}
use Rattle.event_book.proofs.TableLemmas.{eq_from_test}
use Rattle.event_book.proofs.OrderLemmas.{owned-last, not_owned, spelled-push, last-push, spelled-written, last-written}
use Rattle.event_book.proofs.OrderLemmas.{spelled-dropped, last-dropped, last-take_other}
use Rattle.event_book.proofs.BookLemmas.{same_window, carry-enlisted, carry-without, joined-given, rest-given}
use Rattle.event_book.proofs.BookLemmas.{spelled-after_other, enlisted-given}
use Rattle.event_book.proofs.LawfulLemmas.{next-living, owner-window, enlisted-left}
use Rattle.book_calls.specs.Calls.{Making, Add, Put, Ask, Serve, Ending, Written, Cancel, Leave, Delete, CanMake, made}
use Rattle.book_calls.specs.Calls.{Answers, if_answered, given, bytes_to, ended}
use Rattle.book_calls.specs.Laws.{Gets}
use Rattle.book_calls.proofs.Items.{with_files}
use Rattle.book_calls.proofs.Steps.{IsKept}

-- ---- a file in which the opening took as much, and where it is open still, has as much left

record IsSame (o : ℕ) (f g : EventFile) : Type 0 where
  spelled : spelled_in o g.items ≡ spelled_in o f.items
  last : last_spelled o [] g.items ≡ last_spelled o [] f.items
  living : is_enlisted g o ≡ true → (is_enlisted f o ≡ true) × (carry_of g.openings o ≡ carry_of f.openings o)

same : (o : ℕ) (f : EventFile) → IsSame o f f
same o f = record { spelled = refl; last = refl; living = λ l. (l, refl) }

gets_same : (d : List ℕ) (o : ℕ) (f g : EventFile) → IsSame o f g → Gets d f o → Gets d g o
gets_same d o f g e h = record {
  missing = h.missing;
  joined = h.joined ∙ sym e.spelled;
  proper = subst (λ (x : List ℕ). length h.missing ≤ length x - 1) (sym e.last) h.proper;
  living = λ l. h.living (e.living l).0 ∙ sym (e.living l).1;
}

-- one window's file changed
with_same : (d : List ℕ) (o w : ℕ) (f : EventFile) (s : BookState) → IsLawful s → IsSame o (file_of s.files w) f
    → Gets d (file_on s o) o → Gets d (file_of (with_file w f s.files) (window_of s.owners o)) o
with_same d o w f s lawful e h =
    gets_same d o (file_on s o) (file_of (with_file w f s.files) (window_of s.owners o))
    (with_files (IsSame o) (same o) w (window_of s.owners o) f s.files lawful.rise e) h

none_true : false ≡ true → ⊥
none_true h = cc

put_same : (o : ℕ) (f : EventFile) (item : Item) → IsSame o f (with_item f item)
put_same o f item = record {
  spelled = spelled-push o f.items item;
  last = last-push o [] f.items item;
  living =
      λ l. (l, refl);
}

written_same : (o at n : ℕ) (f : EventFile) → IsSame o f (with_written f n at)
written_same o at n f = record {
  spelled = spelled-written o at n f.items;
  last = last-written o at n [] f.items;
  living = λ l. (l, refl);
}

deleted_same : (o at : ℕ) (f : EventFile) → IsSame o f (deleted f at)
deleted_same o at f = record {
  spelled = spelled-dropped o at f.items;
  last = last-dropped o at [] f.items;
  living =
      λ l. absurd (none_true l);
}

-- ---- an opening that is left

gone : (cs : List OpenCarry) (x : ℕ) → list_any (is_of x) (without_opening cs x) ≡ false
gone [] x = refl
gone (c ∷ cs) x =
    (elim (is_of x c) as (λ b. is_of x c ≡ b → list_any (is_of x) (cond (not b) (c ∷ without_opening cs x)
    (without_opening cs x)) ≡ false) [
      | true ↦ λ e. gone cs x
      | false ↦ λ e. rw e (gone cs x)
    ]) refl

left_openings : (cs : List OpenCarry) (at : ℕ) (f : EventFile) → (left_with cs at f).openings ≡ cs
left_openings [] at f = refl
left_openings (c ∷ cs) at f = refl

left_spelled : (cs : List OpenCarry) (o at : ℕ) (f : EventFile) → spelled_in o (left_with cs at f).items
    ≡ spelled_in o f.items
left_spelled [] o at f = spelled-dropped o at f.items
left_spelled (c ∷ cs) o at f = refl

left_last : (cs : List OpenCarry) (o at : ℕ) (f : EventFile) → last_spelled o []
    (left_with cs at f).items ≡ last_spelled o [] f.items
left_last [] o at f = last-dropped o at [] f.items
left_last (c ∷ cs) o at f = refl

left_dead : (x at : ℕ) (f : EventFile) → is_enlisted (left f x at) x ≡ false
left_dead x at f = ap (list_any (is_of x)) (left_openings (without_opening f.openings x) at f) ∙ gone f.openings x

left_carry : (x at o : ℕ) (f : EventFile) → o ≢ x → carry_of (left f x at).openings o ≡ carry_of f.openings o
left_carry x at o f n = ap (λ (cs : List OpenCarry). carry_of cs o) (left_openings (without_opening f.openings x) at f)
    ∙ carry-without f.openings x o n

left_living : (x at o : ℕ) (f : EventFile) → is_enlisted (left f x at) o ≡ true → (is_enlisted f o ≡ true)
    × (carry_of (left f x at).openings o ≡ carry_of f.openings o)
left_living x at o f l =
    (elim (o == x) as (λ b. (o == x) ≡ b → (is_enlisted f o ≡ true)
    × (carry_of (left f x at).openings o ≡ carry_of f.openings o)) [
      | true ↦ λ t.
          let e : o ≡ x = eq_from_test o x t in
          absurd (none_true (sym (left_dead x at f) ∙ subst (λ (y : ℕ). is_enlisted (left f x at) y ≡ true) e l))
      | false ↦ λ t. let other : o ≢ x = grind (arith, nat_tests) in
          (sym (enlisted-left f x at o other) ∙ l, left_carry x at o f other)
    ]) refl

left_same : (x at o : ℕ) (f : EventFile) → IsSame o f (left f x at)
left_same x at o f = record {
  spelled = left_spelled (without_opening f.openings x) o at f;
  last = left_last (without_opening f.openings x) o at f;
  living = left_living x at o f;
}

-- ---- an opening that comes

unnamed_by : (owners : List ℕ) (w o b : ℕ) (own rest : List ℕ) → (IsOwned owners w o → ⊥) → IsOwned owners w b
    → rest ≡ [] → cond (b == o) (own ++ rest) rest ≡ []
unnamed_by owners w o b own rest n k h =
    (elim (b == o) as (λ t. (b == o) ≡ t → cond t (own ++ rest) rest ≡ []) [
      | true ↦ λ e. absurd (n (subst (IsOwned owners w) (eq_from_test b o e) k))
      | false ↦ λ e. h
    ]) refl

-- no item names an opening that isn't the window's
unnamed : (owners : List ℕ) (w o : ℕ) (es : List Recorded) → (IsOwned owners w o → ⊥) → AllNamed owners w es
    → spelled_in o es ≡ []
unnamed owners w o [] n h = refl
unnamed owners w o (e ∷ es) n h =
    let rest : spelled_in o es ≡ [] = unnamed owners w o es n h.1 in
    (elim e.life as (λ l. IfSome (named l) (IsOwned owners w) → cond (took o l) (spelling e.item ++ spelled_in o es)
    (spelled_in o es) ≡ []) [
      | Pending ↦ λ k. rest
      | Taken b a ↦ λ k. unnamed_by owners w o b (spelling e.item) (spelled_in o es) n k rest
      | Back b a c ↦ λ k. unnamed_by owners w o b (spelling e.item) (spelled_in o es) n k rest
      | Dropped a ↦ λ k. rest
    ]) h.0

nothing_first : (xs ys : List ℕ) → xs ++ ys ≡ [] → xs ≡ []
nothing_first [] ys h = refl
nothing_first (x ∷ xs) ys h = absurd cc

nothing_last : (xs ys : List ℕ) → xs ++ ys ≡ [] → ys ≡ []
nothing_last [] ys h = h
nothing_last (x ∷ xs) ys h = absurd cc

-- what isn't yet an opening was given nothing, and has nothing left
fresh_gets : (d : List ℕ) (s : BookState) (w : ℕ) → IsLawful s → Gets d (file_on s (next_opening s)) (next_opening s)
    → Gets d (file_on (after_add s w) (next_opening s)) (next_opening s)
fresh_gets d s w lawful h =
    let x : ℕ = next_opening s in
    let own : IsOwned (s.owners ++ w ∷ []) w x = rw add-one (owned-last s.owners w) in
    let none : (v : ℕ) → IsOwned s.owners v x → ⊥ = λ v k. not_owned s.owners v (rw add-one at k) in
    let window : window_of (s.owners ++ w ∷ []) x ≡ w = owner-window (s.owners ++ w ∷ []) w x own in
    let file : file_on (after_add s w) x ≡ enlisted (file_of s.files w) x =
    ap (file_of (with_file w (enlisted (file_of s.files w) x) s.files)) window
    ∙ same_window 0 w (enlisted (file_of s.files w) x) s.files lawful.rise
    in
    let before : spelled_in x (file_on s x).items ≡ [] = unnamed s.owners (window_of s.owners x) x (file_on s x).items
    (none (window_of s.owners x)) (lawful.files (window_of s.owners x)).takers in
    let nothing : d ≡ [] = nothing_first d h.missing (h.joined ∙ before) in
    let items : spelled_in x (file_of s.files w).items ≡ [] = unnamed s.owners w x (file_of s.files w).items (none w)
    (lawful.files w).takers in
    let rest : IsRest (file_of s.files w).items x (carry_of (file_of s.files w).openings x) = (lawful.files w).rests
    x in
    let left : carry_of (file_of s.files w).openings x ≡ [] = nothing_last rest.before
    (carry_of (file_of s.files w).openings x) (rest.joined ∙ items) in
    subst (λ (g : EventFile). Gets d g x) (sym file)
    (record {
      missing = [];
      joined = append-nil d ∙ nothing ∙ sym items;
      proper = omega arith;
      living = λ l. sym (carry-enlisted (file_of s.files w).openings x x ∙ left);
    })

more_get : (xs : List ℕ) (v k : ℕ) → k ≢ length xs → slice_get (xs ++ v ∷ []) k ≡ slice_get xs k
more_get [] v zero n = absurd (n refl)
more_get [] v (suc k) n = refl
more_get (x ∷ xs) v zero n = refl
more_get (x ∷ xs) v (suc k) n = more_get xs v k (λ e. n (ap suc e))

more_window : (owners : List ℕ) (w o : ℕ) → o ≢ length owners + 1 → window_of (owners ++ w ∷ []) o ≡ window_of owners o
more_window owners w zero n = refl
more_window owners w (suc k) n = ap (λ (x : Option ℕ). unwrap_or x 0) (more_get owners w k (λ e. n (omega (arith, e))))

any_other : (cs : List OpenCarry) (x o : ℕ) → o ≢ x → list_any (is_of o)
    (cs ++ record { opening = x; carry = [] } ∷ []) ≡ list_any (is_of o) cs
any_other [] x o n = let no : (x == o) ≡ false = grind (arith, nat_tests) in rw no refl
any_other (c ∷ cs) x o n = ap (λ b. is_of o c || b) (any_other cs x o n)

enlisted_same : (o x : ℕ) (f : EventFile) → o ≢ x → IsSame o f (enlisted f x)
enlisted_same o x f n = record {
  spelled = refl;
  last = refl;
  living =
      λ l. (sym (any_other f.openings x o n) ∙ l, carry-enlisted f.openings x o);
}

gets_add : (d : List ℕ) (s : BookState) (w o : ℕ) → IsLawful s → Gets d (file_on s o) o
    → Gets d (file_on (after_add s w) o) o
gets_add d s w o lawful h =
    (elim (o == next_opening s) as (λ b. (o == next_opening s) ≡ b → Gets d (file_on (after_add s w) o) o) [
      | true ↦ λ t.
          let e : o ≡ next_opening s = eq_from_test o (next_opening s) t in
          subst (λ (x : ℕ). Gets d (file_on (after_add s w) x) x) (sym e)
          (fresh_gets d s w lawful (subst (λ (x : ℕ). Gets d (file_on s x) x) e h))
      | false ↦ λ t.
          let other : o ≢ next_opening s = grind (arith, nat_tests) in
          subst (λ (v : ℕ). Gets d (file_of (after_add s w).files v) o) (sym (more_window s.owners w o other))
          (with_same d o w (enlisted (file_of s.files w) (next_opening s)) s lawful
          (enlisted_same o (next_opening s) (file_of s.files w) other) h)
    ]) refl

-- ---- an answer

last_other : (taken : Option ℕ) (o by at : ℕ) (es : List Recorded) → o ≢ by
    → last_spelled o [] (items_after taken (Taken by at) es) ≡ last_spelled o [] es
last_other None o by at es n = refl
last_other (Some number) o by at es n = last-take_other o by at [] es n

other_same : (o at : ℕ) (f : EventFile) (r : Asker) → o ≢ r.opening → IsSame o f (after_given f r at)
other_same o at f r n = record {
  spelled = spelled-after_other (piece_of (queue_of f) r).taken o r.opening at f.items n;
  last = last_other (piece_of (queue_of f) r).taken o r.opening at f.items n;
  living = λ l. (sym (enlisted-given f r at o) ∙ l, leaves (queue_of f) r o n);
}

own_gets : (d : List ℕ) (at : ℕ) (s : BookState) (r : Asker) → IsLawful s
    → is_living s r.opening ≡ true → Gets d (file_on s r.opening) r.opening
    → Gets (d ++ (piece_for s r).bytes) (file_on (after_answer s r at) r.opening) r.opening
own_gets d at s r lawful l h =
    let o : ℕ = r.opening in
    let w : ℕ = window_of s.owners o in
    let f : EventFile = file_on s o in
    let rest : IsRest f.items o (carry_of f.openings o) =
    record {
      before = d;
      joined = subst (λ (x : List ℕ). d ++ x ≡ spelled_in o f.items) (h.living l) h.joined;
      proper = subst (λ (x : List ℕ). length x ≤ length (last_spelled o [] f.items) - 1) (h.living l) h.proper;
    }
    in
    subst (λ (g : EventFile). Gets (d ++ (piece_for s r).bytes) g o)
    (sym (same_window 0 w (after_given f r at) s.files lawful.rise))
    (record {
      missing = carry_of (after_given f r at).openings o;
      joined = joined-given f r s.latest at (lawful.files w).order l rest;
      proper = (rest-given f r s.latest at (lawful.files w).order l rest).proper;
      living = λ k. refl;
    })

gets_answer : (d : List ℕ) (at o : ℕ) (s : BookState) (r : Asker) → IsLawful s
    → is_living s r.opening ≡ true → Gets d (file_on s o) o
    → Gets (d ++ bytes_to o ((r, piece_for s r) ∷ [])) (file_on (after_answer s r at) o) o
gets_answer d at o s r lawful l h =
    (elim (r.opening == o) as (λ b. (r.opening == o) ≡ b → Gets (d ++ (cond b (piece_for s r).bytes [] ++ []))
    (file_on (after_answer s r at) o) o) [
      | true ↦ λ t.
          let e : r.opening ≡ o = eq_from_test r.opening o t in
          subst (λ (x : List ℕ). Gets (d ++ x) (file_on (after_answer s r at) o) o)
          (sym (append-nil (piece_for s r).bytes))
          (subst (λ (x : ℕ). Gets (d ++ (piece_for s r).bytes) (file_on (after_answer s r at) x) x) e
          (own_gets d at s r lawful l (subst (λ (x : ℕ). Gets d (file_on s x) x) (sym e) h)))
      | false ↦ λ t.
          let other : o ≢ r.opening = grind (arith, nat_tests) in
          subst (λ (x : List ℕ). Gets x (file_on (after_answer s r at) o) o) (sym (append-nil d))
          (with_same d o (window_of s.owners r.opening) (after_given (file_on s r.opening) r at) s lawful
          (other_same o at (file_on s r.opening) r other) h)
    ]) refl

-- ---- the calls

more_nothing : (d : List ℕ) (o : ℕ) (f : EventFile) → Gets d f o → Gets (d ++ []) f o
more_nothing d o f h = subst (λ (x : List ℕ). Gets x f o) (sym (append-nil d)) h

gets_ask : (d : List ℕ) (at o : ℕ) (s : BookState) (r : Asker) → IsLawful s
    → is_living s r.opening ≡ true → Gets d (file_on s o) o
    → Gets (d ++ bytes_to o (given s (Ask r))) (file_on (after_ask s r at) o) o
gets_ask d at o s r lawful l h =
    elim (read_waits s r) as (λ b. Gets (d ++ bytes_to o (cond b [] ((r, piece_for s r) ∷ [])))
    (file_on (cond b (record s { reads = s.reads ++ r ∷ []; latest = at }) (after_answer s r at)) o) o) [
      | true ↦ more_nothing d o (file_on s o) h
      | false ↦ gets_answer d at o s r lawful l h
    ]

gets_next : (d : List ℕ) (at o : ℕ) (s : BookState) (next : Option Asker) → IsLawful s
    → ((r : Asker) → next ≡ Some r → is_living s r.opening ≡ true) → Gets d (file_on s o) o
    → Gets (d ++ bytes_to o (if_answered (option_map {U = Asker × Piece} (λ r. (r, piece_for s r)) next)))
    (file_on (after_next next s at) o) o
gets_next d at o s None lawful l h = more_nothing d o (file_on s o) h
gets_next d at o s (Some r) lawful l h = gets_answer d at o s r lawful (l r refl) h

gets_made : (d : List ℕ) (at o : ℕ) (s : BookState) (c : Making) → IsLawful s → CanMake s c → Gets d (file_on s o) o
    → Gets (d ++ bytes_to o (given s c)) (file_on (made at s c) o) o
gets_made d at o s (Add w) lawful can h = more_nothing d o (file_on (after_add s w) o) (gets_add d s w o lawful h)
gets_made d at o s (Put w item) lawful can h =
    more_nothing d o (file_of (with_file w (with_item (file_of s.files w) item) s.files) (window_of s.owners o))
    (with_same d o w (with_item (file_of s.files w) item) s lawful (put_same o (file_of s.files w) item) h)
gets_made d at o s (Ask r) lawful can h = gets_ask d at o s r lawful can h
gets_made d at o s Serve lawful can h = gets_next d at o s (next_of s) lawful (λ r e. next-living s r lawful.living e) h

joined_bytes : (o : ℕ) (g more : Answers) → bytes_to o (g ++ more) ≡ bytes_to o g ++ bytes_to o more
joined_bytes o [] more = refl
joined_bytes o (a ∷ g) more =
    ap (λ (x : List ℕ). cond (a.0.opening == o) a.1.bytes [] ++ x) (joined_bytes o g more)
    ∙ sym (append_assoc (cond (a.0.opening == o) a.1.bytes []) (bytes_to o g) (bytes_to o more))

pub gets_on : (d : List ℕ) (at o : ℕ) (g : Answers) (s : BookState) (c : Making) → IsKept at s → CanMake s c
    → Gets (d ++ bytes_to o g) (file_on s o) o
    → Gets (d ++ bytes_to o (g ++ given s c)) (file_on (made at s c) o) o
gets_on d at o g s c k can h =
    subst (λ (x : List ℕ). Gets x (file_on (made at s c) o) o) (append_assoc d (bytes_to o g) (bytes_to o (given s c))
    ∙ ap (λ (x : List ℕ). d ++ x) (sym (joined_bytes o g (given s c))))
    (gets_made (d ++ bytes_to o g) at o s c k.lawful can h)

pub gets_ended : (d : List ℕ) (at o : ℕ) (s : BookState) (c : Ending) → IsKept at s → Gets d (file_on s o) o
    → Gets d (file_on (ended at s c) o) o
gets_ended d at o s (Written w n) k h = with_same d o w (with_written (file_of s.files w) n at) s k.lawful
    (written_same o at n (file_of s.files w)) h
gets_ended d at o s (Cancel conn tag) k h = h
gets_ended d at o s (Leave x) k h = with_same d o (window_of s.owners x) (left (file_on s x) x at) s k.lawful
    (left_same x at o (file_on s x)) h
gets_ended d at o s (Delete w) k h = with_same d o w (deleted (file_of s.files w) at) s k.lawful
    (deleted_same o at (file_of s.files w)) h
