-- Which calls drop items.
use Rattle.std.proofs.Common.{◌≡◌, ◌≢◌, ◌==◌, ◌⊎◌, inl, inr, ℕ, zero, suc, true, false, cond, nat_lt, length, List, []}
use Rattle.std.proofs.Common.{◌∷◌, ◌++◌, slice_get, Option, Some, None, refl, sym, ap, ◌∙◌, subst, arith}
use Rattle.std.proofs.lemmas.Bool.Decides.{nat_tests}
use Rattle.win_events.specs.declared.item.Item.{Item}
use Rattle.win_events.specs.declared.item.Life.{Life}
use Rattle.win_events.specs.declared.item.Life.TheVariants.{Pending, Taken, Back, Dropped}
use Rattle.wait_queue.specs.Carry.{OpenCarry, without_opening}
use Rattle.wait_queue.specs.WaitState.{piece_of}
use Rattle.wait_queue.specs.declared.types.Asker.{Asker}
use Rattle.event_book.specs.Lives.{pends, fresh, take_first, drop_life, with_drop, all_dropped, back_life, with_back}
use Rattle.event_book.specs.Lives.{written_back, numbered}
use Rattle.event_book.specs.WindowFiles.{EventFile, queue_of, has_opening, enlisted, with_item, items_after, given}
use Rattle.event_book.specs.WindowFiles.{with_written, left_with, left, deleted, file_of, with_file}
use Rattle.event_book.specs.BookState.{BookState, window_of, file_on, next_opening, read_waits, after_answer, after_ask}
use Rattle.event_book.specs.BookState.{next_of, after_next}
use Rattle.event_book.specs.Laws.{IsLawful, dropped, DropsNone, DroppedAtClose}
use Rattle.event_book.specs.declared.lives.Recorded.{Recorded}
use Rattle.event_book.proofs.TableLemmas.{eq_from_test}
use Rattle.event_book.proofs.BookLemmas.{same_window, other_window}

some_same : {A : Type 0} (a b : A) → Some a ≡ Some b → a ≡ b
some_same a b h = cc

no_member : {A : Type 0} (a : A) → ◌≡◌ {A = Option A} None (Some a) → ⊥
no_member a h = cc

-- ---- lives that are dropped

pending_not : (at : ℕ) → Pending ≡ Dropped at → ⊥
pending_not at h = cc

taken_not : (o a at : ℕ) → Taken o a ≡ Dropped at → ⊥
taken_not o a at h = cc

back_dropped : (at : ℕ) (life : Life) (e : ℕ) → back_life at life ≡ Dropped e → life ≡ Dropped e
back_dropped at Pending e h = absurd (pending_not e h)
back_dropped at (Taken o a) e h = cc
back_dropped at (Back o a b) e h = h
back_dropped at (Dropped a) e h = h

dropped_same : (at e : ℕ) → Dropped at ≡ Dropped e → at ≡ e
dropped_same at e h = cc

drop_dropped : (at : ℕ) (life : Life) (e : ℕ) → drop_life at life ≡ Dropped e → (life ≡ Dropped e) ⊎ (e ≡ at)
drop_dropped at Pending e h = inr (sym (dropped_same at e h))
drop_dropped at (Taken o a) e h = inl h
drop_dropped at (Back o a b) e h = inl h
drop_dropped at (Dropped a) e h = inl h

abbrev as_recorded : Item → Life → Recorded
as_recorded item life = record { item = item; life = life }

-- a recorded item that is dropped, by its parts
recorded_as : (r : Recorded) (item : Item) (e : ℕ) → r.item ≡ item → r.life ≡ Dropped e → Some r ≡ Some (dropped item e)
recorded_as r item e a b = ap (λ i. Some (as_recorded i r.life)) a ∙ ap (λ l. Some (as_recorded item l)) b

-- ---- lists of items

push_drops : (es : List Recorded) (new item : Item) (k e : ℕ) → slice_get (es ++ fresh new ∷ [])
    k ≡ Some (dropped item e) → slice_get es k ≡ Some (dropped item e)
push_drops [] new item zero e h =
    absurd (pending_not e (ap (λ (r : Recorded). r.life) (some_same (fresh new) (dropped item e) h)))
push_drops [] new item (suc k) e h = h
push_drops (x ∷ es) new item zero e h = h
push_drops (x ∷ es) new item (suc k) e h = push_drops es new item k e h

take_drops : (o at : ℕ) (es : List Recorded) (item : Item) (k e : ℕ)
    → slice_get (take_first (Taken o at) es) k ≡ Some (dropped item e) → slice_get es k ≡ Some (dropped item e)
take_drops o at [] item k e h = h
take_drops o at (x ∷ es) item zero e h =
    (elim (pends x) as (λ b. slice_get (cond b (record { item = x.item; life = Taken o at } ∷ es)
    (x ∷ take_first (Taken o at) es)) zero ≡ Some (dropped item e) → Some x ≡ Some (dropped item e)) [
      | true ↦ λ k.
          absurd (taken_not o at e (ap (λ (r : Recorded). r.life) (some_same
          (record { item = x.item; life = Taken o at }) (dropped item e) k)))
      | false ↦ λ k. k
    ]) h
take_drops o at (x ∷ es) item (suc k) e h =
    (elim (pends x) as (λ b. slice_get (cond b (record { item = x.item; life = Taken o at } ∷ es)
    (x ∷ take_first (Taken o at) es)) (suc k) ≡ Some (dropped item e) → slice_get es k ≡ Some (dropped item e)) [
      | true ↦ λ t. t
      | false ↦ λ t. take_drops o at es item k e t
    ]) h

after_drops : (taken : Option ℕ) (o at : ℕ) (es : List Recorded) (item : Item) (n e : ℕ)
    → numbered (items_after taken (Taken o at) es) n ≡ Some (dropped item e) → numbered es n ≡ Some (dropped item e)
after_drops None o at es item n e h = h
after_drops (Some number) o at es item zero e h = h
after_drops (Some number) o at es item (suc k) e h = take_drops o at es item k e h

write_drops : (at m : ℕ) (es : List Recorded) (item : Item) (k e : ℕ)
    → slice_get (written_back at m es) k ≡ Some (dropped item e) → slice_get es k ≡ Some (dropped item e)
write_drops at zero es item k e h = h
write_drops at (suc m) [] item k e h = h
write_drops at (suc zero) (x ∷ es) item zero e h =
    let same = some_same (with_back at x) (dropped item e) h in
    recorded_as x item e (ap (λ (r : Recorded). r.item) same) (back_dropped at x.life e
    (ap (λ (r : Recorded). r.life) same))
write_drops at (suc zero) (x ∷ es) item (suc k) e h = h
write_drops at (suc (suc m)) (x ∷ es) item zero e h = h
write_drops at (suc (suc m)) (x ∷ es) item (suc k) e h = write_drops at (suc m) es item k e h

close_drops : (at : ℕ) (es : List Recorded) (item : Item) (k e : ℕ)
    → slice_get (all_dropped at es) k ≡ Some (dropped item e) → (slice_get es k ≡ Some (dropped item e)) ⊎ (e ≡ at)
close_drops at [] item k e h = inl h
close_drops at (x ∷ es) item zero e h =
    let same = some_same (with_drop at x) (dropped item e) h in
    elim (drop_dropped at x.life e (ap (λ (r : Recorded). r.life) same)) [
      | inl l ↦ inl (recorded_as x item e (ap (λ (r : Recorded). r.item) same) l)
      | inr l ↦ inr l
    ]
close_drops at (x ∷ es) item (suc k) e h = close_drops at es item k e h

numbered_close : (at : ℕ) (es : List Recorded) (item : Item) (n e : ℕ)
    → numbered (all_dropped at es) n ≡ Some (dropped item e) → (numbered es n ≡ Some (dropped item e)) ⊎ (e ≡ at)
numbered_close at es item zero e h = absurd (no_member (dropped item e) h)
numbered_close at es item (suc k) e h = close_drops at es item k e h

-- ---- one window's file changed

with_drops : (s : BookState) (w : ℕ) (f : EventFile) → IsLawful s →
    ((n : ℕ) (item : Item) (e : ℕ) → numbered f.items n ≡ Some (dropped item e)
    → numbered (file_of s.files w).items n ≡ Some (dropped item e)) → (v n : ℕ) (item : Item) (e : ℕ)
    → numbered (file_of (with_file w f s.files) v).items n ≡ Some (dropped item e)
    → numbered (file_of s.files v).items n ≡ Some (dropped item e)
with_drops s w f h own v n item e k =
    (elim (v == w) as (λ b. (v == w) ≡ b → numbered (file_of s.files v).items n ≡ Some (dropped item e)) [
      | true ↦ λ t.
          let same = eq_from_test v w t in
          let here = subst (λ x. numbered (file_of (with_file w f s.files) x).items n ≡ Some (dropped item e)) same k in
          subst (λ x. numbered (file_of s.files x).items n ≡ Some (dropped item e)) (sym same)
          (own n item e (subst (λ (g : EventFile). numbered g.items n ≡ Some (dropped item e))
          (same_window 0 w f s.files h.rise) here))
      | false ↦ λ t.
          let other : v ≢ w = grind (arith, nat_tests) in
          subst (λ (g : EventFile). numbered g.items n ≡ Some (dropped item e)) (other_window w v f s.files other) k
    ]) refl

with_drops_at : (s : BookState) (w : ℕ) (f : EventFile) (now : ℕ) → IsLawful s
    → ((n : ℕ) (item : Item) (e : ℕ) → numbered f.items n ≡ Some (dropped item e)
    → (numbered (file_of s.files w).items n ≡ Some (dropped item e)) ⊎ ((e ≡ now) × (has_opening f ≡ false)))
    → (v n : ℕ) (item : Item) (e : ℕ) → numbered (file_of (with_file w f s.files) v).items n ≡ Some (dropped item e)
    → (numbered (file_of s.files v).items n ≡ Some (dropped item e))
    ⊎ ((e ≡ now) × (has_opening (file_of (with_file w f s.files) v) ≡ false))
with_drops_at s w f now h own v n item e k =
    (elim (v == w) as (λ b. (v == w) ≡ b → (numbered (file_of s.files v).items n ≡ Some (dropped item e))
    ⊎ ((e ≡ now) × (has_opening (file_of (with_file w f s.files) v) ≡ false))) [
      | true ↦ λ t.
          let same = eq_from_test v w t in
          let here = subst (λ x. numbered (file_of (with_file w f s.files) x).items n ≡ Some (dropped item e)) same k in
          let file = same_window 0 w f s.files h.rise in
          subst (λ x. (numbered (file_of s.files x).items n ≡ Some (dropped item e))
          ⊎ ((e ≡ now) × (has_opening (file_of (with_file w f s.files) x) ≡ false))) (sym same)
          (subst (λ (g : EventFile). (numbered (file_of s.files w).items n ≡ Some (dropped item e))
          ⊎ ((e ≡ now) × (has_opening g ≡ false))) (sym file)
          (own n item e (subst (λ (g : EventFile). numbered g.items n ≡ Some (dropped item e)) file here)))
      | false ↦ λ t.
          let other : v ≢ w = grind (arith, nat_tests) in
          inl (subst (λ (g : EventFile). numbered g.items n ≡ Some (dropped item e)) (other_window w v f s.files other)
          k)
    ]) refl

-- ---- the calls

answer_drops : (s : BookState) (r : Asker) (at : ℕ) → IsLawful s → DropsNone s (after_answer s r at)
answer_drops s r at h v n item e k =
    with_drops s (window_of s.owners r.opening) (given (file_on s r.opening) r at) h
    (λ n item e t. after_drops (piece_of (queue_of (file_on s r.opening)) r).taken r.opening at
    (file_on s r.opening).items item n e t) v n item e k

ask_drops : (s : BookState) (r : Asker) (at : ℕ) → IsLawful s → DropsNone s (after_ask s r at)
ask_drops s r at h =
    elim (read_waits s r) as (λ b. DropsNone s (cond b (record s { reads = s.reads ++ r ∷ []; latest = at })
    (after_answer s r at))) [
      | true ↦ λ v n item e k. k
      | false ↦ answer_drops s r at h
    ]

next_drops : (next : Option Asker) (s : BookState) (at : ℕ) → IsLawful s → DropsNone s (after_next next s at)
next_drops None s at h = λ v n item e k. k
next_drops (Some r) s at h = answer_drops s r at h

push_numbered : (es : List Recorded) (new item : Item) (n e : ℕ) → numbered (es ++ fresh new ∷ [])
    n ≡ Some (dropped item e) → numbered es n ≡ Some (dropped item e)
push_numbered es new item zero e h = h
push_numbered es new item (suc k) e h = push_drops es new item k e h

write_numbered : (at m : ℕ) (es : List Recorded) (item : Item) (n e : ℕ)
    → numbered (written_back at m es) n ≡ Some (dropped item e) → numbered es n ≡ Some (dropped item e)
write_numbered at m es item zero e h = h
write_numbered at m es item (suc k) e h = write_drops at m es item k e h

-- a file without openings isn't open
with_closed : (P Q : Type 0) → P ⊎ Q → P ⊎ (Q × (nat_lt 0 (length {A = OpenCarry} []) ≡ false))
with_closed P Q (inl p) = inl p
with_closed P Q (inr q) = inr (q, refl)

left_drops : (cs : List OpenCarry) (at : ℕ) (f : EventFile) (n : ℕ) (item : Item) (e : ℕ)
    → numbered (left_with cs at f).items n ≡ Some (dropped item e) → (numbered f.items n ≡ Some (dropped item e))
    ⊎ ((e ≡ at) × (has_opening (left_with cs at f) ≡ false))
left_drops [] at f n item e k = with_closed (numbered f.items n ≡ Some (dropped item e)) (e ≡ at)
    (numbered_close at f.items item n e k)
left_drops (c ∷ cs) at f n item e k = inl k

delete_drops : (at : ℕ) (f : EventFile) (n : ℕ) (item : Item) (e : ℕ)
    → numbered (deleted f at).items n ≡ Some (dropped item e) → (numbered f.items n ≡ Some (dropped item e))
    ⊎ ((e ≡ at) × (has_opening (deleted f at) ≡ false))
delete_drops at f n item e k = with_closed (numbered f.items n ≡ Some (dropped item e)) (e ≡ at)
    (numbered_close at f.items item n e k)

pub only_closes : DroppedAtClose
only_closes s h = record {
  add = λ w. with_drops s w (enlisted (file_of s.files w) (next_opening s)) h (λ n item e k. k);
  put = λ w new. with_drops s w (with_item (file_of s.files w) new) h
      (λ n item e k. push_numbered (file_of s.files w).items new item n e k);
  ask = λ r at. ask_drops s r at h;
  serve = λ at. next_drops (next_of s) s at h;
  written = λ w m at. with_drops s w (with_written (file_of s.files w) m at) h
      (λ n item e k. write_numbered at m (file_of s.files w).items item n e k);
  cancel = λ conn tag. λ v n item e k. k;
  leave = λ o at. with_drops_at s (window_of s.owners o) (left (file_on s o) o at) at h
      (λ n item e k. left_drops (without_opening (file_on s o).openings o) at (file_on s o) n item e k);
  delete = λ w at. with_drops_at s w (deleted (file_of s.files w) at) at h
      (λ n item e k. delete_drops at (file_of s.files w) n item e k);
}
