-- What an event file's queue has after each change.
use Rattle.std.proofs.Common.{◌≡◌, ◌==◌, nat_lt, map, subst, ℕ, zero, suc, ◌+◌, true, false, cond, List, [], ◌∷◌, ◌++◌}
use Rattle.std.proofs.Common.{length, None, refl, sym, ap, ◌∙◌, arith}
use Rattle.win_events.specs.Spelling.{spelling}
use Rattle.win_events.specs.declared.item.Item.{Item}
use Rattle.win_events.specs.declared.item.Life.{Life}
use Rattle.win_events.specs.declared.item.Life.TheVariants.{Pending, Taken, Back, Dropped}
use Rattle.am_text.specs.Twice.{Twice, both}
use Rattle.wait_queue.specs.declared.types.Piece.{Piece}
use Rattle.wait_queue.specs.Carry.{OpenCarry, without_opening, emptied}
use Rattle.wait_queue.specs.WaitState.{WaitState, nothing, after_put, after_enlist, after_leave, after_close, piece_of}
use Rattle.wait_queue.specs.WaitState.{after_piece, piece_from, after_from}
use Rattle.wait_queue.specs.declared.types.Asker.{Asker}
use Rattle.wait_queue.specs.declared.pending.Pending.{Pending as QueueItem}
use Rattle.wait_queue.specs.Carry.{carry_of}
use Rattle.event_book.specs.Lives.{is_pending, pends, fresh, take_first, drop_life, all_dropped, back_life}
use Rattle.event_book.specs.Lives.{written_back, pending_from}
use Rattle.event_book.specs.WindowFiles.{EventFile, queue_of, IsQueueOf, file_in, given, items_after, unopened}
use Rattle.event_book.specs.WindowFiles.{with_written, left_with, left}
use Rattle.event_book.proofs.TableLemmas.{true_false, lt_true}
use Rattle.event_book.specs.declared.lives.Recorded.{Recorded}

pub pending-push : (n k : ℕ) (es : List Recorded) (item : Item) → k ≡ n + length es
    → pending_from n (es ++ fresh item ∷ []) ≡ pending_from n es ++ record { number = k; bytes = spelling item } ∷ []
pending-push n k [] item h = let same : n ≡ k = omega (arith, h) in rw same refl
pending-push n k (e ∷ es) item h =
    let rest = pending-push (suc n) k es item (omega (arith, h)) in
    elim (pends e) as (λ b. cond b (record { number = n; bytes = spelling e.item } ∷ pending_from (suc n)
    (es ++ fresh item ∷ [])) (pending_from (suc n) (es ++ fresh item ∷ [])) ≡ cond b
    (record { number = n; bytes = spelling e.item } ∷ pending_from (suc n) es) (pending_from (suc n) es)
    ++ record { number = k; bytes = spelling item } ∷ []) [
      | true ↦ ap (λ t. record { number = n; bytes = spelling e.item } ∷ t) rest
      | false ↦ rest
    ]

pub pending-take : (life : Life) (n : ℕ) (es : List Recorded) (q : QueueItem) (qs : List QueueItem)
    → is_pending life ≡ false → pending_from n es ≡ q ∷ qs → pending_from n (take_first life es) ≡ qs
pending-take life n [] q qs p h = cc
pending-take life n (e ∷ es) q qs p h =
    (elim (pends e) as (λ b. pends e ≡ b → cond b (record { number = n; bytes = spelling e.item } ∷ pending_from (suc n)
    es) (pending_from (suc n) es) ≡ q ∷ qs → pending_from n (cond b (record { item = e.item; life = life } ∷ es)
    (e ∷ take_first life es)) ≡ qs) [
      | true ↦ λ t k. rw p (let same : pending_from (suc n) es ≡ qs = cc in same)
      | false ↦ λ t k. rw t (pending-take life (suc n) es q qs p k)
    ]) refl h

pub pending-dropped : (at n : ℕ) (es : List Recorded) → pending_from n (all_dropped at es) ≡ []
pending-dropped at n [] = refl
pending-dropped at n (e ∷ es) =
    elim e.life as (λ l. cond (is_pending (drop_life at l)) (record { number = n; bytes = spelling e.item }
    ∷ pending_from (suc n) (all_dropped at es)) (pending_from (suc n) (all_dropped at es)) ≡ []) [
      | Pending ↦ pending-dropped at (suc n) es
      | Taken o a ↦ pending-dropped at (suc n) es
      | Back o a b ↦ pending-dropped at (suc n) es
      | Dropped a ↦ pending-dropped at (suc n) es
    ]

back-pends : (at : ℕ) (life : Life) → is_pending (back_life at life) ≡ is_pending life
back-pends at Pending = refl
back-pends at (Taken o a) = refl
back-pends at (Back o a b) = refl
back-pends at (Dropped a) = refl

pub pending-written : (at k n : ℕ) (es : List Recorded) → pending_from n (written_back at k es) ≡ pending_from n es
pending-written at zero n es = refl
pending-written at (suc k) n [] = refl
pending-written at (suc zero) n (e ∷ es) = rw (back-pends at e.life)
pending-written at (suc (suc k)) n (e ∷ es) = rw (pending-written at (suc k) (suc n) es)

give_from : (carry : List ℕ) (qs : List QueueItem) (f : EventFile) (r : Asker) (at : ℕ)
    → pending_from 1 f.items ≡ qs → ◌≡◌ {A = WaitState} (record {
      items = pending_from 1
          (items_after (piece_from carry qs r.count).taken (Taken r.opening at) f.items);
      openings =
          (after_from carry qs (queue_of f) r).openings;
      reads = [];
    }) (after_from carry qs (queue_of f) r)
give_from (b ∷ bs) qs f r at e = refl
give_from [] (q ∷ qs) f r at e = rw (pending-take (Taken r.opening at) 1 f.items q qs refl e)
give_from [] [] f r at e = refl

pub give-queue : (f : EventFile) (r : Asker) (at : ℕ) → queue_of (given f r at) ≡ after_piece (queue_of f) r
give-queue f r at =
    elim (r.count == 0) as (λ b. ◌≡◌ {A = WaitState} (record {
      items = pending_from 1
          (items_after (cond b (record { bytes = []; taken = None })
          (piece_from (carry_of f.openings r.opening) (pending_from 1 f.items) r.count)).taken (Taken r.opening at)
          f.items);
      openings = (cond b (queue_of f) (after_from (carry_of f.openings r.opening) (pending_from 1 f.items)
          (queue_of f) r)).openings;
      reads = [];
    }) (cond b (queue_of f)
    (after_from (carry_of f.openings r.opening) (pending_from 1 f.items) (queue_of f) r))) [
      | true ↦ refl
      | false ↦ give_from (carry_of f.openings r.opening) (pending_from 1 f.items) f r at refl
    ]

pub written-unopened : (number at : ℕ) → with_written unopened number at ≡ unopened
written-unopened zero at = refl
written-unopened (suc number) at = refl

-- ---- the queue beside the items after each call

abbrev queue_state : List QueueItem → List OpenCarry → WaitState
queue_state qs os = record { items = qs; openings = os; reads = [] }

abbrev with_present_items : Twice (List Recorded) → List Recorded → Twice (List Recorded)
with_present_items t es = record t { present = es }

abbrev with_present_queue : Twice WaitState → WaitState → Twice WaitState
with_present_queue t q = record t { present = q }

abbrev twice_items : List Recorded → List Recorded → Twice (List Recorded)
twice_items present kept = record { present = present; kept = kept }

pub agree-new : IsQueueOf (both []) (both nothing)
agree-new = record { present = refl; kept = refl }

pub agree-put : (items items' : Twice (List Recorded)) (queue queue' : Twice WaitState) (item : Item)
    → IsQueueOf items queue → items' ≡ record items { present = items.present ++ fresh item ∷ [] }
    → queue' ≡ record queue { present = after_put queue.present (length items.present + 1) (spelling item) }
    → IsQueueOf items' queue'
agree-put items items' queue queue' item h a b =
    subst (λ (t : Twice (List Recorded)). IsQueueOf t queue') (sym a)
    (subst (λ (t : Twice WaitState). IsQueueOf (record items { present = items.present ++ fresh item ∷ [] }) t) (sym b)
    (record {
      present =
          (ap (λ (q : WaitState). after_put q (length items.present + 1) (spelling item)) h.present
          ∙ ap (λ qs. queue_state qs queue.present.openings) (sym (pending-push 1 (length items.present + 1)
          items.present item (omega arith))));
      kept = h.kept;
    }))

pub agree-enlist : (items : Twice (List Recorded)) (queue queue' : Twice WaitState) (o : ℕ) → IsQueueOf items queue
    → queue' ≡ record queue { present = after_enlist queue.present o } → IsQueueOf items queue'
agree-enlist items queue queue' o h b =
    subst (IsQueueOf items) (sym b) (record {
      present = ap (λ (q : WaitState). after_enlist q o) h.present;
      kept =
          h.kept;
    })

pub agree-given : (items items' : Twice (List Recorded)) (queue queue' : Twice WaitState) (r : Asker) (at : ℕ)
    (piece : Piece) → IsQueueOf items queue → piece ≡ piece_of queue.present r
    → items' ≡ record items { present = items_after piece.taken (Taken r.opening at) items.present }
    → queue' ≡ record queue { present = after_piece queue.present r } → IsQueueOf items' queue'
agree-given items items' queue queue' r at piece h p a b =
    let f = file_in items queue in
    let taken : piece.taken ≡ (piece_of (queue_of f) r).taken =
    (ap (λ (x : Piece). x.taken) p ∙ ap (λ (q : WaitState). (piece_of q r).taken) h.present)
    in
    let after : after_piece queue.present r ≡ queue_of (given f r at) =
    (ap (λ (q : WaitState). after_piece q r) h.present ∙ sym (give-queue f r at))
    in
    let items_is : items' ≡ record items { present = (given f r at).items } =
    (a ∙ ap (λ o. with_present_items items (items_after o (Taken r.opening at) items.present)) taken)
    in
    let queue_is : queue' ≡ record queue { present = queue_of (given f r at) } =
    (b ∙ ap (λ (q : WaitState). with_present_queue queue q) after)
    in
    subst (λ (t : Twice (List Recorded)). IsQueueOf t queue') (sym items_is)
    (subst (λ (t : Twice WaitState). IsQueueOf (record items { present = (given f r at).items }) t) (sym queue_is)
    (record { present = refl; kept = h.kept }))

pub agree-written : (items items' : Twice (List Recorded)) (queue : Twice WaitState) (number at : ℕ)
    → IsQueueOf items queue → queue.present ≡ queue.kept → items' ≡ both (written_back at number items.present)
    → IsQueueOf items' queue
agree-written items items' queue number at h s a =
    let present : queue.present ≡ queue_of (record {
      items = written_back at number items.present;
      openings =
          queue.present.openings;
    }) =
    (h.present ∙ ap (λ qs. queue_state qs queue.present.openings) (sym (pending-written at number 1 items.present)))
    in
    subst (λ (t : Twice (List Recorded)). IsQueueOf t queue) (sym a)
    (record {
      present = present;
      kept = subst (λ (q : WaitState). q ≡ queue_of (record {
        items = written_back at number items.present;
        openings =
            q.openings;
      })) s present;
    })

pub agree-deleted : (es : List Recorded) (at : ℕ) (items' : Twice (List Recorded)) (queue' : Twice WaitState)
    → items' ≡ both (all_dropped at es) → queue' ≡ both nothing → IsQueueOf items' queue'
agree-deleted es at items' queue' a b =
    let none : nothing ≡ queue_state (pending_from 1 (all_dropped at es)) [] =
    ap (λ qs. queue_state qs []) (sym (pending-dropped at 1 es))
    in
    subst (λ (t : Twice (List Recorded)). IsQueueOf t queue') (sym a)
    (subst (IsQueueOf (both (all_dropped at es))) (sym b) (record { present = none; kept = none }))

pub agree-both : (items' : Twice (List Recorded)) (queue' : Twice WaitState) (f : EventFile) → items' ≡ both f.items
    → queue' ≡ both (queue_of f) → IsQueueOf items' queue'
agree-both items' queue' f a b =
    subst (λ (t : Twice (List Recorded)). IsQueueOf t queue') (sym a)
    (subst (IsQueueOf (both f.items)) (sym b) (record { present = refl; kept = refl }))

-- both states of a file are equal, so those of its parts are
pub steady_items : (items : Twice (List Recorded)) (queue : Twice WaitState)
    → ◌≡◌ {A = EventFile} (record { items = items.present; openings = queue.present.openings })
    (record { items = items.kept; openings = queue.kept.openings }) → items.present ≡ items.kept
steady_items items queue h = ap (λ (f : EventFile). f.items) h

pub steady_queue : (items : Twice (List Recorded)) (queue : Twice WaitState) → IsQueueOf items queue
    → ◌≡◌ {A = EventFile} (record { items = items.present; openings = queue.present.openings })
    (record { items = items.kept; openings = queue.kept.openings }) → queue.present ≡ queue.kept
steady_queue items queue a h = a.present ∙ ap queue_of h ∙ sym a.kept

-- ---- an opening that leaves

left_open : (cs : List OpenCarry) (at : ℕ) (f : EventFile) → nat_lt 0 (length cs) ≡ true → left_with cs at
    f ≡ record { items = f.items; openings = cs }
left_open [] at f h = cc
left_open (c ∷ cs) at f h = refl

closed_nil : (cs : List OpenCarry) → nat_lt 0 (length cs) ≡ false → cs ≡ []
closed_nil [] h = refl
closed_nil (c ∷ cs) h = absurd (true_false (nat_lt 0 (suc (length cs))) (lt_true 0 (suc (length cs)) (omega arith)) h)

left_closed : (cs : List OpenCarry) (at : ℕ) (f : EventFile) → nat_lt 0 (length cs) ≡ false → left_with cs at
    f ≡ record { items = all_dropped at f.items; openings = [] }
left_closed cs at f h = ap (λ os. left_with os at f) (closed_nil cs h)

pub left-open_items : (items : Twice (List Recorded)) (queue : Twice WaitState) (o at : ℕ)
    → items.present ≡ items.kept → nat_lt 0 (length (without_opening queue.present.openings o)) ≡ true →
    items ≡ both (left (file_in items queue) o at).items
left-open_items items queue o at s h =
    ap (λ es. twice_items items.present es) (sym s)
    ∙ ap (λ (f : EventFile). both f.items) (sym (left_open (without_opening queue.present.openings o) at
    (file_in items queue) h))

pub left-open_queue : (items : Twice (List Recorded)) (queue queue' : Twice WaitState) (o at : ℕ)
    → IsQueueOf items queue → queue' ≡ both (after_leave queue.present o)
    → nat_lt 0 (length (without_opening queue.present.openings o)) ≡ true →
    queue' ≡ both (queue_of (left (file_in items queue) o at))
left-open_queue items queue queue' o at a e h =
    e ∙ ap (λ (q : WaitState). both (after_leave q o)) a.present
    ∙ ap (λ (f : EventFile). both (queue_of f)) (sym (left_open (without_opening queue.present.openings o) at
    (file_in items queue) h))

pub left-closed_items : (items items' : Twice (List Recorded)) (queue : Twice WaitState) (o at : ℕ)
    → items' ≡ both (all_dropped at items.present) → nat_lt 0 (length (without_opening queue.present.openings o))
    ≡ false → items' ≡ both (left (file_in items queue) o at).items
left-closed_items items items' queue o at e h =
    e ∙ ap (λ (f : EventFile). both f.items) (sym (left_closed (without_opening queue.present.openings o) at
    (file_in items queue) h))

pub left-closed_queue : (items : Twice (List Recorded)) (queue queue' queue'' : Twice WaitState) (o at : ℕ)
    → queue' ≡ both (after_leave queue.present o) → queue'' ≡ both (after_close queue'.present)
    → nat_lt 0 (length (without_opening queue.present.openings o)) ≡ false →
    queue'' ≡ both (queue_of (left (file_in items queue) o at))
left-closed_queue items queue queue' queue'' o at d e h =
    e ∙ ap (λ (t : Twice WaitState). both (after_close t.present)) d
    ∙ ap (λ cs. both (queue_state [] (map emptied cs))) (closed_nil (without_opening queue.present.openings o) h)
    ∙ ap (λ qs. both (queue_state qs [])) (sym (pending-dropped at 1 items.present))
    ∙ ap (λ (f : EventFile). both (queue_of f)) (sym (left_closed (without_opening queue.present.openings o) at
    (file_in items queue) h))
