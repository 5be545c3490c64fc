-- Seats that are split off for slots, and taken in again.
use Rattle.std.proofs.Common.{◌≡◌, ℕ, ◌+◌, ◌-◌, ◌*◌, ◌<◌, List, [], ◌∷◌, ◌++◌, length, length-append, map, map-id}
use Rattle.std.proofs.Common.{get_or, All, refl, sym, ap, subst, ◌∙◌, append_assoc, arith}
use Rattle.am_base.specs.Outside.{GateTold}
use Rattle.std.specs.List.{flat_map, AllByRecursion}
use Rattle.std.specs.Vec.Iter.{into_iter_items, into_iter_len, into_iter_steps}
use Rattle.std.proofs.lemmas.Iterator.{YieldsList}
use Rattle.std.proofs.lemmas.Iterator.Adapters.{YieldsList-from_vec}
use Rattle.std.proofs.lemmas.List.{append-nil, map-append}
use Rattle.std.proofs.lemmas.List.Concat.{flat_map-append}
use Rattle.std.proofs.lemmas.List.Elements.{All-nil, All-cons, All-append}
use Rattle.turn_lock.specs.Journal.{total}
use Rattle.am_journal.specs.declared.event.Event.{Event}
use Rattle.am_counter.specs.Known.{Known, TakesIn, lists_of, new_known, without_parts}
use Rattle.am_counter.specs.Played.{IsPrefix}
use Rattle.am_slots.specs.Binding.{AreWaiting}
use Rattle.am_slots.specs.Working.{IsFresh, IsReady, TakesInEach, slots_of}
use Rattle.am_slots.specs.declared.slot.Slot.{Slot}
use Rattle.am_slots.specs.declared.working.Worker.{Worker}
use Rattle.am_slots.proofs.Bound.{waiting_front}
use Rattle.am_serve.proofs.Gaining.{grown}

-- ---- loops over a vector

-- its items come one after another
pub items_come : {A Z : Type 0} → {s : _} (xs ys : List A) (n : ℕ)
    → into_iter_items s ≡ ys → into_iter_len s ≡ n → n ≡ length ys
    → ys ≡ xs → YieldsList (into_iter_steps {X = A} {Z = Z}) (λ y. y) s xs
items_come xs ys n a b c d = YieldsList-from_vec xs (a ∙ d) (b ∙ c ∙ ap length d)

-- those that came at the end
pub all_came : {A : Type 0} (yielded xs : List A) → map (λ y. y) yielded ≡ xs → yielded ≡ xs
all_came yielded xs e = sym (map-id yielded) ∙ e

-- a member of a list of which all are so
pub held_at : {A : Type 0} (xs : List A) (P : A → Type 0) (k : ℕ) (x : A) → All P xs → k < length xs → x ≡ get_or xs k x
    → P x
held_at xs P k x h lt e = subst P (sym e) (h k x lt)

-- ---- split off

-- it has no entry and has seen the same
pub mine_kept : (v u : Known) → u ≡ without_parts 2 v → v.mine ≡ [] → u.mine ≡ []
mine_kept v u known e = ap (λ (k : Known). k.mine) known ∙ e

pub ended_kept : (v u : Known) → u ≡ without_parts 2 v → v.ended ≡ [] → u.ended ≡ []
ended_kept v u known e = ap (λ (k : Known). k.ended) known ∙ e

pub seen_kept : (v u : Known) (seen : List Event) → u ≡ without_parts 2 v → v.seen ≡ seen → u.seen ≡ seen
seen_kept v u seen known e = ap (λ (k : Known). k.seen) known ∙ e

new_fresh : (n : ℕ) (v w : Known) → w ≡ new_known n v → IsFresh n w
new_fresh n v w e = record {
  parts = ap (λ (k : Known). k.parts) e;
  mine = ap (λ (k : Known). k.mine) e;
  ended = ap (λ (k : Known). k.ended) e;
}

module _ {T G L S K : Type 0} (Fits : T → Type 0) (known : T → Known) where
  abbrev pub AreReady : List (Slot G L S K) → List (Worker T G L S K) → Type 0
  AreReady slots workers = (told : G → GateTold) → AreWaiting told slots → All (IsReady Fits known told) workers

  pub ready_none : AreReady [] []
  ready_none = λ told waiting. All-nil (IsReady Fits known told)

  pub ready_more : (slots : List (Slot G L S K)) (workers : List (Worker T G L S K)) (s : Slot G L S K) (seat : T)
      (v : Known)
      → AreReady slots workers → Fits seat → known seat ≡ new_known 2 v
      → AreReady (slots ++ s ∷ []) (workers ++ record { seat = seat; slot = s } ∷ [])
  ready_more slots workers s seat v h fit new = λ told waiting.
      let both = waiting_front told slots (s ∷ []) waiting in
      All-append (IsReady Fits known told) workers (record { seat = seat; slot = s } ∷ []) (h told both.0)
      (All-cons (IsReady Fits known told) (record { seat = seat; slot = s }) []
      (record { fits = fit; fresh = new_fresh 2 v (known seat) new; waits = both.1.0 })
      (All-nil (IsReady Fits known told)))

  -- one seat more was split off
  module _ (slots : List (Slot G L S K)) (workers now : List (Worker T G L S K)) (s : Slot G L S K) (seat : T)
      (e : now ≡ workers ++ record { seat = seat; slot = s } ∷ []) where
    pub parts_next : (v u : Known) (n : ℕ) → length slots < n → v.parts + 2 * length slots ≡ 2 * n + 1
        → u ≡ without_parts 2 v → u.parts + 2 * length (slots ++ s ∷ []) ≡ 2 * n + 1
    parts_next v u n lt h known =
        let parts : u.parts ≡ v.parts - 2 = ap (λ (k : Known). k.parts) known in
        omega (arith, lt, h, parts, length-append slots (s ∷ []))

    pub slots_next : slots_of workers ≡ slots → slots_of now ≡ slots ++ s ∷ []
    slots_next h =
        ap (λ (l : List (Worker T G L S K)). slots_of l) e
        ∙ map-append (λ (w : Worker T G L S K). w.slot) workers (record { seat = seat; slot = s } ∷ [])
        ∙ ap (λ (l : List (Slot G L S K)). l ++ s ∷ []) h

    pub ready_next : (v : Known) → AreReady slots workers → Fits seat → known seat ≡ new_known 2 v
        → AreReady (slots ++ s ∷ []) now
    ready_next v h fit new =
        let P : List (Worker T G L S K) → Type 0 = λ l. AreReady (slots ++ s ∷ []) l in
        subst P (sym e) (ready_more slots workers s seat v h fit new)

  pub ready_whole : (slots yielded : List (Slot G L S K)) (workers : List (Worker T G L S K))
      → yielded ≡ slots → AreReady yielded workers → AreReady slots workers
  ready_whole slots yielded workers e h = let P : List (Slot G L S K) → Type 0 = λ l. AreReady l workers in subst P e h

-- ---- taken in

total-append : {A : Type 0} (f : A → ℕ) (xs : List A) (y : A) → total f (xs ++ y ∷ []) ≡ total f xs + f y
total-append f [] y = omega arith
total-append f (x ∷ xs) y = omega (arith, total-append f xs y)

module _ {T G L S K : Type 0} (known : T → Known) where
  seen_later : (xs ys : List Event) (workers : List (Worker T G L S K)) → IsPrefix xs ys
      → AllByRecursion (λ x. IsPrefix (known x.seat).seen xs) workers
      → AllByRecursion (λ x. IsPrefix (known x.seat).seen ys) workers
  seen_later xs ys [] p a = tt
  seen_later xs ys (w ∷ workers) p a = (grown (known w.seat).seen xs ys a.0 p, seen_later xs ys workers p a.1)

  seen_more : (xs : List Event) (workers : List (Worker T G L S K)) (w : Worker T G L S K)
      → AllByRecursion (λ x. IsPrefix (known x.seat).seen xs) workers → IsPrefix (known w.seat).seen xs
      → AllByRecursion (λ x. IsPrefix (known x.seat).seen xs) (workers ++ w ∷ [])
  seen_more xs [] w a p = (p, tt)
  seen_more xs (x ∷ workers) w a p = (a.0, seen_more xs workers w a.1 p)

  pub takes_none : (v : Known) → TakesInEach {G = G} {L = L} {S = S} {K = K} known v [] v
  takes_none v = record {
    parts = omega arith;
    seen = ([], append-nil v.seen);
    each = tt;
    mine = refl;
    ended = sym (append-nil v.ended);
  }

  pub takes_more : (v u w : Known) (workers : List (Worker T G L S K)) (x : Worker T G L S K)
      → TakesInEach known v workers u → TakesIn u (known x.seat) w → TakesInEach known v (workers ++ x ∷ []) w
  takes_more v u w workers x h t =
      let now : List Event = t.0 in
      let at : w.seen ≡ now = ap (λ (k : Known). k.seen) t.3 in
      let parts : w.parts ≡ u.parts + (known x.seat).parts = ap (λ (k : Known). k.parts) t.3 in
      let P : List Event → Type 0 = λ l. IsPrefix v.seen l in
      let Q : List Event → Type 0 = λ l. AllByRecursion (λ (y : Worker T G L S K). IsPrefix (known y.seat).seen l)
      (workers ++ x ∷ []) in
      let f : Worker T G L S K → List (List (ℕ × Event)) = λ y. lists_of (known y.seat) in
      record {
        parts = omega (arith, parts, h.parts, total-append (λ (y : Worker T G L S K). (known y.seat).parts) workers x);
        seen = subst P (sym at) (grown v.seen u.seen now h.seen t.1);
        each = subst Q (sym at) (seen_more now workers x (seen_later u.seen now workers t.1 h.each) t.2);
        mine = ap (λ (k : Known). k.mine) t.3 ∙ h.mine;
        ended =
            ap (λ (k : Known). k.ended) t.3
            ∙ ap (λ (l : List (List (ℕ × Event))). l ++ f x) h.ended
            ∙ append_assoc v.ended (flat_map f workers) (f x)
            ∙ ap (λ (l : List (List (ℕ × Event))). v.ended ++ l)
            (sym (flat_map-append f workers (x ∷ []) ∙ ap (λ (l : List (List (ℕ × Event))). flat_map f workers ++ l)
            (append-nil (f x))));
      }

  pub takes_whole : (v w : Known) (workers yielded : List (Worker T G L S K))
      → yielded ≡ workers → TakesInEach known v yielded w → TakesInEach known v workers w
  takes_whole v w workers yielded e h = let P : List (Worker T G L S K) → Type 0 = λ l. TakesInEach known v l w in
      subst P e h

module _ {T G L S K : Type 0} where
  pub slots_more : (slots now : List (Slot G L S K)) (workers : List (Worker T G L S K)) (x : Worker T G L S K)
      → now ≡ slots ++ x.slot ∷ [] → slots ≡ slots_of workers → now ≡ slots_of (workers ++ x ∷ [])
  slots_more slots now workers x e h =
      e ∙ ap (λ (l : List (Slot G L S K)). l ++ x.slot ∷ []) h ∙ sym
      (map-append (λ (w : Worker T G L S K). w.slot) workers (x ∷ []))

  pub slots_whole : (slots : List (Slot G L S K)) (workers yielded : List (Worker T G L S K))
      → yielded ≡ workers → slots ≡ slots_of yielded → slots ≡ slots_of workers
  slots_whole slots workers yielded e h = h ∙ ap (λ (l : List (Worker T G L S K)). slots_of l) e
