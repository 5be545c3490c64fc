-- What each call leaves of each item.
use Rattle.std.proofs.Common.{◌≡◌, ◌≢◌, ◌==◌, ℕ, zero, suc, true, false, cond, List, [], ◌∷◌, ◌++◌, slice_get, Option}
use Rattle.std.proofs.Common.{Some, None, refl, sym, ap, ◌∙◌, subst, arith}
use Rattle.std.proofs.lemmas.Bool.Decides.{nat_tests}
use Rattle.win_events.specs.declared.item.Item.{Item}
use Rattle.win_events.specs.declared.item.Life.{Life}
use Rattle.win_events.specs.declared.item.Life.TheVariants.{Pending, Taken, Back, Dropped}
use Rattle.wait_queue.specs.Carry.{OpenCarry, without_opening}
use Rattle.wait_queue.specs.WaitState.{piece_of}
use Rattle.wait_queue.specs.declared.types.Asker.{Asker}
use Rattle.event_book.specs.Lives.{is_pending, pends, fresh, take_first, drop_life, with_drop, all_dropped, back_life}
use Rattle.event_book.specs.Lives.{with_back, written_back, numbered}
use Rattle.event_book.specs.WindowFiles.{EventFile, queue_of, enlisted, with_item, items_after, given, with_written}
use Rattle.event_book.specs.WindowFiles.{left_with, left, deleted, file_of, with_file}
use Rattle.event_book.specs.BookState.{BookState, window_of, file_on, next_opening, read_waits, after_answer, after_ask}
use Rattle.event_book.specs.BookState.{next_of, after_next}
use Rattle.event_book.specs.Laws.{IsLawful, TakesNone, TakenByAnswers, is_ended, KeepsEnded, EndedStay}
use Rattle.event_book.specs.declared.lives.Recorded.{Recorded}
use Rattle.event_book.proofs.TableLemmas.{eq_from_test}
use Rattle.event_book.proofs.BookLemmas.{same_window, other_window}

-- ---- a relation of the item at each place before a change and after it

module _ (P : Option Recorded → Option Recorded → Type 0) (same : (o : Option Recorded) → P o o) where
  pushed : (new : Item) → P None (Some (fresh new)) → (es : List Recorded) (k : ℕ)
      → P (slice_get es k) (slice_get (es ++ fresh new ∷ []) k)
  pushed new h [] zero = h
  pushed new h [] (suc k) = same None
  pushed new h (x ∷ es) zero = same (Some x)
  pushed new h (x ∷ es) (suc k) = pushed new h es k

  taken : (life : Life) → ((x : Recorded) → pends x ≡ true → P (Some x) (Some (record { item = x.item; life = life })))
      → (es : List Recorded) (k : ℕ) → P (slice_get es k) (slice_get (take_first life es) k)
  taken life h [] k = same (slice_get [] k)
  taken life h (x ∷ es) zero =
      (elim (pends x) as (λ b. pends x ≡ b → P (Some x) (slice_get
      (cond b (record { item = x.item; life = life } ∷ es) (x ∷ take_first life es)) zero))
      [ true ↦ λ e. h x e | false ↦ λ e. same (Some x) ]) refl
  taken life h (x ∷ es) (suc k) =
      elim (pends x) as (λ b. P (slice_get es k) (slice_get (cond b (record { item = x.item; life = life } ∷ es)
      (x ∷ take_first life es)) (suc k)))
      [ true ↦ same (slice_get es k) | false ↦ taken life h es k ]

  written : (at : ℕ) → ((x : Recorded) → P (Some x) (Some (with_back at x))) → (m : ℕ) (es : List Recorded) (k : ℕ)
      → P (slice_get es k) (slice_get (written_back at m es) k)
  written at h zero es k = same (slice_get es k)
  written at h (suc m) [] k = same (slice_get [] k)
  written at h (suc zero) (x ∷ es) zero = h x
  written at h (suc zero) (x ∷ es) (suc k) = same (slice_get es k)
  written at h (suc (suc m)) (x ∷ es) zero = same (Some x)
  written at h (suc (suc m)) (x ∷ es) (suc k) = written at h (suc m) es k

  closed : (at : ℕ) → ((x : Recorded) → P (Some x) (Some (with_drop at x))) → (es : List Recorded) (k : ℕ)
      → P (slice_get es k) (slice_get (all_dropped at es) k)
  closed at h [] k = same (slice_get [] k)
  closed at h (x ∷ es) zero = h x
  closed at h (x ∷ es) (suc k) = closed at h es k

  -- by numbers
  by_number : (es es' : List Recorded) → ((k : ℕ) → P (slice_get es k) (slice_get es' k)) → (n : ℕ)
      → P (numbered es n) (numbered es' n)
  by_number es es' h zero = same None
  by_number es es' h (suc k) = h k

  left_items : (at : ℕ) → ((x : Recorded) → P (Some x) (Some (with_drop at x)))
      → (cs : List OpenCarry) (f : EventFile) (n : ℕ) → P (numbered f.items n) (numbered (left_with cs at f).items n)
  left_items at h [] f n = by_number f.items (all_dropped at f.items) (closed at h f.items) n
  left_items at h (c ∷ cs) f n = same (numbered f.items n)

  taken_items : (life : Life) → ((x : Recorded) → pends x ≡ true → P (Some x)
      (Some (record { item = x.item; life = life }))) → (o : Option ℕ) (es : List Recorded) (n : ℕ)
      → P (numbered es n) (numbered (items_after o life es) n)
  taken_items life h None es n = same (numbered es n)
  taken_items life h (Some number) es n = by_number es (take_first life es) (taken life h es) n

  -- one window's file changed
  with_items : (s : BookState) (w : ℕ) (f : EventFile) → IsLawful s
      → ((n : ℕ) → P (numbered (file_of s.files w).items n) (numbered f.items n)) → (v n : ℕ)
      → P (numbered (file_of s.files v).items n) (numbered (file_of (with_file w f s.files) v).items n)
  with_items s w f h own v n =
      (elim (v == w) as (λ b. (v == w) ≡ b → P (numbered (file_of s.files v).items n)
      (numbered (file_of (with_file w f s.files) v).items n)) [
        | true ↦ λ t.
            let e = eq_from_test v w t in
            subst (λ x. P (numbered (file_of s.files x).items n) (numbered (file_of (with_file w f s.files) x).items n))
            (sym e)
            (subst (λ (g : EventFile). P (numbered (file_of s.files w).items n) (numbered g.items n))
            (sym (same_window 0 w f s.files h.rise)) (own n))
        | false ↦ λ t.
            let other : v ≢ w = grind (arith, nat_tests) in
            subst (λ (g : EventFile). P (numbered (file_of s.files v).items n) (numbered g.items n))
            (sym (other_window w v f s.files other)) (same (numbered (file_of s.files v).items n))
      ]) refl

some_same : {A : Type 0} (a b : A) → Some a ≡ Some b → a ≡ b
some_same a b h = cc

no_member : {A : Type 0} (a : A) → ◌≡◌ {A = Option A} None (Some a) → ⊥
no_member a h = cc

abbrev as_recorded : Item → Life → Recorded
as_recorded item life = record { item = item; life = life }

-- ---- what is taken after was so before

abbrev WasTaken : Option Recorded → Option Recorded → Type 0
WasTaken before after =
    (item : Item) (o at : ℕ) → after ≡ Some (as_recorded item (Taken o at))
    → before ≡ Some (as_recorded item (Taken o at))

was_taken : (o : Option Recorded) → WasTaken o o
was_taken o = λ item opening at h. h

pending_not : (o at : ℕ) → Pending ≡ Taken o at → ⊥
pending_not o at h = cc

back_not : (o a b p at : ℕ) → Back o a b ≡ Taken p at → ⊥
back_not o a b p at h = cc

dropped_not : (a o at : ℕ) → Dropped a ≡ Taken o at → ⊥
dropped_not a o at h = cc

back_taken : (at : ℕ) (life : Life) (o e : ℕ) → back_life at life ≡ Taken o e → ⊥
back_taken at Pending o e h = pending_not o e h
back_taken at (Taken p a) o e h = back_not p a at o e h
back_taken at (Back p a b) o e h = back_not p a b o e h
back_taken at (Dropped a) o e h = dropped_not a o e h

drop_taken : (at : ℕ) (life : Life) (o e : ℕ) → drop_life at life ≡ Taken o e → life ≡ Taken o e
drop_taken at Pending o e h = absurd (dropped_not at o e h)
drop_taken at (Taken p a) o e h = h
drop_taken at (Back p a b) o e h = absurd (back_not p a b o e h)
drop_taken at (Dropped a) o e h = absurd (dropped_not a o e h)

fresh_taken : (new : Item) → WasTaken None (Some (fresh new))
fresh_taken new item o at h =
    absurd (pending_not o at (ap (λ (r : Recorded). r.life) (some_same (fresh new) (as_recorded item (Taken o at)) h)))

written_taken : (now : ℕ) (x : Recorded) → WasTaken (Some x) (Some (with_back now x))
written_taken now x item o at h =
    absurd (back_taken now x.life o at (ap (λ (r : Recorded). r.life)
    (some_same (with_back now x) (as_recorded item (Taken o at)) h)))

closed_taken : (now : ℕ) (x : Recorded) → WasTaken (Some x) (Some (with_drop now x))
closed_taken now x item o at h =
    let e = some_same (with_drop now x) (as_recorded item (Taken o at)) h in
    ap (λ i. Some (as_recorded i x.life)) (ap (λ (r : Recorded). r.item) e)
    ∙ ap (λ l. Some (as_recorded item l)) (drop_taken now x.life o at (ap (λ (r : Recorded). r.life) e))

waits_taken : (s : BookState) (r : Asker) (at : ℕ) → TakesNone s (record s { reads = s.reads ++ r ∷ []; latest = at })
waits_taken s r at = λ v n item o e k. k

idle_taken : (s : BookState) → TakesNone s s
idle_taken s = λ v n item o e k. k

pub only_answers_take : TakenByAnswers
only_answers_take s h = record {
  add = λ w. with_items WasTaken was_taken s w (enlisted (file_of s.files w) (next_opening s)) h
      (λ n. was_taken (numbered (file_of s.files w).items n));
  put = λ w new. with_items WasTaken was_taken s w (with_item (file_of s.files w) new) h
      (by_number WasTaken was_taken (file_of s.files w).items ((file_of s.files w).items ++ fresh new ∷ [])
      (pushed WasTaken was_taken new (fresh_taken new) (file_of s.files w).items));
  waits = λ r at e. rw e (waits_taken s r at);
  idle = λ at e. rw e (idle_taken s);
  written = λ w m at. with_items WasTaken was_taken s w (with_written (file_of s.files w) m at) h
      (by_number WasTaken was_taken (file_of s.files w).items (written_back at m (file_of s.files w).items)
      (written WasTaken was_taken at (written_taken at) m (file_of s.files w).items));
  cancel = λ conn tag. λ v n item o e k. k;
  leave = λ o at. with_items WasTaken was_taken s (window_of s.owners o) (left (file_on s o) o at) h
      (left_items WasTaken was_taken at (closed_taken at) (without_opening (file_on s o).openings o) (file_on s o));
  delete = λ w at. with_items WasTaken was_taken s w (deleted (file_of s.files w) at) h
      (by_number WasTaken was_taken (file_of s.files w).items (all_dropped at (file_of s.files w).items)
      (closed WasTaken was_taken at (closed_taken at) (file_of s.files w).items));
}

-- ---- what was written back or dropped stays so

abbrev IsKept : Option Recorded → Option Recorded → Type 0
IsKept before after = (e : Recorded) → before ≡ Some e → is_ended e.life ≡ true → after ≡ Some e

is_kept : (o : Option Recorded) → IsKept o o
is_kept o = λ e h t. h

fresh_kept : (new : Item) → IsKept None (Some (fresh new))
fresh_kept new e h t = absurd (no_member e h)

not_both : (life : Life) → is_pending life ≡ true → is_ended life ≡ true → ⊥
not_both Pending p t = cc
not_both (Taken o a) p t = cc
not_both (Back o a b) p t = cc
not_both (Dropped a) p t = cc

taken_kept : (life : Life) (x : Recorded) → pends x ≡ true → IsKept (Some x)
    (Some (record { item = x.item; life = life }))
taken_kept life x p e h t =
    let is = some_same x e h in absurd (not_both e.life (subst (λ (r : Recorded). pends r ≡ true) is p) t)

back_same : (at : ℕ) (life : Life) → is_ended life ≡ true → back_life at life ≡ life
back_same at Pending t = cc
back_same at (Taken o a) t = cc
back_same at (Back o a b) t = refl
back_same at (Dropped a) t = refl

drop_same : (at : ℕ) (life : Life) → is_ended life ≡ true → drop_life at life ≡ life
drop_same at Pending t = cc
drop_same at (Taken o a) t = cc
drop_same at (Back o a b) t = refl
drop_same at (Dropped a) t = refl

written_kept : (now : ℕ) (x : Recorded) → IsKept (Some x) (Some (with_back now x))
written_kept now x e h t =
    ap (λ r. Some (with_back now r)) (some_same x e h) ∙ ap (λ l. Some (as_recorded e.item l)) (back_same now e.life t)

closed_kept : (now : ℕ) (x : Recorded) → IsKept (Some x) (Some (with_drop now x))
closed_kept now x e h t =
    ap (λ r. Some (with_drop now r)) (some_same x e h) ∙ ap (λ l. Some (as_recorded e.item l)) (drop_same now e.life t)

answer_kept : (s : BookState) (r : Asker) (at : ℕ) → IsLawful s → KeepsEnded s (after_answer s r at)
answer_kept s r at h =
    with_items IsKept is_kept s (window_of s.owners r.opening) (given (file_on s r.opening) r at) h
    (taken_items IsKept is_kept (Taken r.opening at) (taken_kept (Taken r.opening at))
    (piece_of (queue_of (file_on s r.opening)) r).taken (file_on s r.opening).items)

ask_kept : (s : BookState) (r : Asker) (at : ℕ) → IsLawful s → KeepsEnded s (after_ask s r at)
ask_kept s r at h =
    elim (read_waits s r) as (λ b. KeepsEnded s (cond b (record s { reads = s.reads ++ r ∷ []; latest = at })
    (after_answer s r at)))
    [ true ↦ λ v n e k t. k | false ↦ answer_kept s r at h ]

next_kept : (next : Option Asker) (s : BookState) (at : ℕ) → IsLawful s → KeepsEnded s (after_next next s at)
next_kept None s at h = λ v n e k t. k
next_kept (Some r) s at h = answer_kept s r at h

pub ended_stays : EndedStay
ended_stays s h = record {
  add = λ w. with_items IsKept is_kept s w (enlisted (file_of s.files w) (next_opening s)) h
      (λ n. is_kept (numbered (file_of s.files w).items n));
  put = λ w new. with_items IsKept is_kept s w (with_item (file_of s.files w) new) h
      (by_number IsKept is_kept (file_of s.files w).items ((file_of s.files w).items ++ fresh new ∷ [])
      (pushed IsKept is_kept new (fresh_kept new) (file_of s.files w).items));
  ask = λ r at. ask_kept s r at h;
  serve = λ at. next_kept (next_of s) s at h;
  written = λ w m at. with_items IsKept is_kept s w (with_written (file_of s.files w) m at) h
      (by_number IsKept is_kept (file_of s.files w).items (written_back at m (file_of s.files w).items)
      (written IsKept is_kept at (written_kept at) m (file_of s.files w).items));
  cancel = λ conn tag. λ v n e k t. k;
  leave = λ o at. with_items IsKept is_kept s (window_of s.owners o) (left (file_on s o) o at) h
      (left_items IsKept is_kept at (closed_kept at) (without_opening (file_on s o).openings o) (file_on s o));
  delete = λ w at. with_items IsKept is_kept s w (deleted (file_of s.files w) at) h
      (by_number IsKept is_kept (file_of s.files w).items (all_dropped at (file_of s.files w).items)
      (closed IsKept is_kept at (closed_kept at) (file_of s.files w).items));
}
