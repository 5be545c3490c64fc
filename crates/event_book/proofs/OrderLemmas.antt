-- The order of a window's items, and what an opening took, after each change.
use Rattle.std.proofs.Common.{◌≡◌, ◌≢◌, ◌==◌, ◌||◌, ◌&&◌, ℕ, zero, suc, ◌≤◌, Bool, true, false, not, cond, List, []}
use Rattle.std.proofs.Common.{◌∷◌, ◌++◌, length, slice_get, Option, Some, None, IfSome, refl, sym, ap, ◌∙◌, subst}
use Rattle.std.proofs.Common.{arith}
use Rattle.std.specs.List.{list_any}
use Rattle.std.proofs.lemmas.List.{append-nil, append_assoc}
use Rattle.std.proofs.lemmas.Bool.Decides.{nat_tests}
use Rattle.win_events.specs.Spelling.{spelling}
use Rattle.win_events.specs.declared.item.Item.{Item}
use Rattle.win_events.specs.declared.item.Life.{Life}
use Rattle.win_events.specs.declared.item.Life.TheVariants.{Pending, Taken, Back, Dropped}
use Rattle.wait_queue.specs.Carry.{OpenCarry, set_carry, without_opening, is_of}
use Rattle.wait_queue.specs.declared.pending.Pending.{Pending as QueueItem}
use Rattle.event_book.specs.Lives.{is_pending, pends, fresh, take_first, drop_life, all_dropped, back_life}
use Rattle.event_book.specs.Lives.{written_back, pending_from}
use Rattle.event_book.specs.Laws.{settled_at, Follows, all_pending, InOrder, none_pending, took, spelled_in}
use Rattle.event_book.specs.Laws.{last_spelled, IsOwned, AllOwned, named, AllNamed}
use Rattle.event_book.specs.declared.lives.Recorded.{Recorded}

-- ---- the order

order_pending : (low high : ℕ) (es : List Recorded) → all_pending es ≡ true → InOrder low high es
order_pending low high [] h = tt
order_pending low high (e ∷ es) h =
    (elim e.life as (λ l. (is_pending l && all_pending es) ≡ true → Follows (settled_at l) low high
    (all_pending es ≡ true) (λ at. InOrder at high es)) [
      | Pending ↦ λ k. k
      | Taken o a ↦ λ k. cc
      | Back o a b ↦ λ k. cc
      | Dropped a ↦ λ k. cc
    ]) h

pub order-raise : (low high higher : ℕ) (es : List Recorded) → high ≤ higher → InOrder low high es
    → InOrder low higher es
order-raise low high higher [] l s = tt
order-raise low high higher (e ∷ es) l s =
    (elim (settled_at e.life) as (λ t. Follows t low high (all_pending es ≡ true) (λ at. InOrder at high es)
    → Follows t low higher (all_pending es ≡ true) (λ at. InOrder at higher es)) [
      | None ↦ λ k. k
      | Some at ↦ λ k. (k.0, omega (arith, k.1, l), order-raise at high higher es l k.2)
    ]) s

pending-push_all : (es : List Recorded) (item : Item) → all_pending es ≡ true →
    all_pending (es ++ fresh item ∷ []) ≡ true
pending-push_all [] item h = refl
pending-push_all (e ∷ es) item h =
    (elim (pends e) as (λ b. (b && all_pending es) ≡ true → (b && all_pending (es ++ fresh item ∷ [])) ≡ true) [
      | true ↦ λ k. pending-push_all es item k
      | false ↦ λ k. cc
    ]) h

pub order-push : (low high : ℕ) (es : List Recorded) (item : Item) → InOrder low high es
    → InOrder low high (es ++ fresh item ∷ [])
order-push low high [] item s = refl
order-push low high (e ∷ es) item s =
    (elim (settled_at e.life) as (λ t. Follows t low high (all_pending es ≡ true) (λ at. InOrder at high es)
    → Follows t low high (all_pending (es ++ fresh item ∷ []) ≡ true)
    (λ at. InOrder at high (es ++ fresh item ∷ []))) [
      | None ↦ λ k. pending-push_all es item k
      | Some at ↦ λ k. (k.0, k.1, order-push at high es item k.2)
    ]) s

pub order-take : (low high opening at : ℕ) (es : List Recorded) → low ≤ at → high ≤ at → InOrder low high es
    → InOrder low at (take_first (Taken opening at) es)
order-take low high opening at [] l h s = tt
order-take low high opening at (e ∷ es) l h s =
    (elim e.life as (λ life. Follows (settled_at life) low high (all_pending es ≡ true) (λ a. InOrder a high es)
    → InOrder low at (cond (is_pending life) (record { item = e.item; life = Taken opening at } ∷ es)
    (record { item = e.item; life = life } ∷ take_first (Taken opening at) es))) [
      | Pending ↦ λ k. (l, omega arith, order_pending at at es k)
      | Taken o a ↦ λ k. (k.0, omega (arith, k.1, h), order-take a high opening at es (omega (arith, k.1, h)) h k.2)
      | Back o a b ↦ λ k. (k.0, omega (arith, k.1, h), order-take a high opening at es (omega (arith, k.1, h)) h k.2)
      | Dropped a ↦ λ k. (k.0, omega (arith, k.1, h), order-take a high opening at es (omega (arith, k.1, h)) h k.2)
    ]) s

pub order-drop : (low high at : ℕ) (es : List Recorded) → low ≤ at → high ≤ at → InOrder low high es
    → InOrder low at (all_dropped at es)
order-drop low high at [] l h s = tt
order-drop low high at (e ∷ es) l h s =
    (elim e.life as (λ life. Follows (settled_at life) low high (all_pending es ≡ true) (λ a. InOrder a high es)
    → InOrder low at (record { item = e.item; life = drop_life at life } ∷ all_dropped at es)) [
      | Pending ↦ λ k. (l, omega arith, order-drop at at at es (omega arith) (omega arith) (order_pending at at es k))
      | Taken o a ↦ λ k. (k.0, omega (arith, k.1, h), order-drop a high at es (omega (arith, k.1, h)) h k.2)
      | Back o a b ↦ λ k. (k.0, omega (arith, k.1, h), order-drop a high at es (omega (arith, k.1, h)) h k.2)
      | Dropped a ↦ λ k. (k.0, omega (arith, k.1, h), order-drop a high at es (omega (arith, k.1, h)) h k.2)
    ]) s

back-pending : (at : ℕ) (life : Life) → is_pending (back_life at life) ≡ is_pending life
back-pending at Pending = refl
back-pending at (Taken o a) = refl
back-pending at (Back o a b) = refl
back-pending at (Dropped a) = refl

back-settled : (at : ℕ) (life : Life) → settled_at (back_life at life) ≡ settled_at life
back-settled at Pending = refl
back-settled at (Taken o a) = refl
back-settled at (Back o a b) = refl
back-settled at (Dropped a) = refl

back-named : (at : ℕ) (life : Life) → named (back_life at life) ≡ named life
back-named at Pending = refl
back-named at (Taken o a) = refl
back-named at (Back o a b) = refl
back-named at (Dropped a) = refl

back-took : (at opening : ℕ) (life : Life) → took opening (back_life at life) ≡ took opening life
back-took at opening Pending = refl
back-took at opening (Taken o a) = refl
back-took at opening (Back o a b) = refl
back-took at opening (Dropped a) = refl

all_pending-written : (at n : ℕ) (es : List Recorded) → all_pending (written_back at n es) ≡ all_pending es
all_pending-written at zero es = refl
all_pending-written at (suc n) [] = refl
all_pending-written at (suc zero) (e ∷ es) = rw (back-pending at e.life)
all_pending-written at (suc (suc n)) (e ∷ es) = ap (λ b. pends e && b) (all_pending-written at (suc n) es)

pub none_pending-written : (at n : ℕ) (es : List Recorded) → none_pending (written_back at n es) ≡ none_pending es
none_pending-written at zero es = refl
none_pending-written at (suc n) [] = refl
none_pending-written at (suc zero) (e ∷ es) = rw (back-pending at e.life)
none_pending-written at (suc (suc n)) (e ∷ es) = ap (λ b. not (pends e) && b) (none_pending-written at (suc n) es)

pub order-written : (low high at n : ℕ) (es : List Recorded) → InOrder low high es
    → InOrder low high (written_back at n es)
order-written low high at zero es s = s
order-written low high at (suc n) [] s = tt
order-written low high at (suc zero) (e ∷ es) s = rw (back-settled at e.life) s
order-written low high at (suc (suc n)) (e ∷ es) s =
    (elim (settled_at e.life) as (λ t. Follows t low high (all_pending es ≡ true) (λ a. InOrder a high es)
    → Follows t low high (all_pending (written_back at (suc n) es) ≡ true)
    (λ a. InOrder a high (written_back at (suc n) es))) [
      | None ↦ λ k. all_pending-written at (suc n) es ∙ k
      | Some a ↦ λ k. (k.0, k.1, order-written a high at (suc n) es k.2)
    ]) s

pub none_pending-dropped : (at : ℕ) (es : List Recorded) → none_pending (all_dropped at es) ≡ true
none_pending-dropped at [] = refl
none_pending-dropped at (e ∷ es) =
    elim e.life as (λ l. (not (is_pending (drop_life at l)) && none_pending (all_dropped at es)) ≡ true) [
      | Pending ↦ none_pending-dropped at es
      | Taken o a ↦ none_pending-dropped at es
      | Back o a b ↦ none_pending-dropped at es
      | Dropped a ↦ none_pending-dropped at es
    ]

-- ---- the openings that lives name

slice_get-append : (xs ys : List ℕ) (k v : ℕ) → slice_get xs k ≡ Some v → slice_get (xs ++ ys) k ≡ Some v
slice_get-append [] ys k v h = cc
slice_get-append (x ∷ xs) ys zero v h = h
slice_get-append (x ∷ xs) ys (suc k) v h = slice_get-append xs ys k v h

pub owned-more : (owners more : List ℕ) (w opening : ℕ) → IsOwned owners w opening → IsOwned (owners ++ more) w opening
owned-more owners more w zero h = cc
owned-more owners more w (suc k) h = slice_get-append owners more k w h

slice_get-last : (xs : List ℕ) (v : ℕ) → slice_get (xs ++ v ∷ []) (length xs) ≡ Some v
slice_get-last [] v = refl
slice_get-last (x ∷ xs) v = slice_get-last xs v

slice_get-none : (xs : List ℕ) (v : ℕ) → slice_get xs (length xs) ≡ Some v → ⊥
slice_get-none [] v h = cc
slice_get-none (x ∷ xs) v h = slice_get-none xs v h

pub owned-last : (owners : List ℕ) (w : ℕ) → IsOwned (owners ++ w ∷ []) w (suc (length owners))
owned-last owners w = slice_get-last owners w

pub not_owned : (owners : List ℕ) (w : ℕ) → IsOwned owners w (suc (length owners)) → ⊥
not_owned owners w h = slice_get-none owners w h

pub all_owned-more : (owners more : List ℕ) (w : ℕ) (cs : List OpenCarry) → AllOwned owners w cs
    → AllOwned (owners ++ more) w cs
all_owned-more owners more w [] h = tt
all_owned-more owners more w (c ∷ cs) h = (owned-more owners more w c.opening h.0, all_owned-more owners more w cs h.1)

named-more : (owners more : List ℕ) (w : ℕ) (o : Option ℕ) → IfSome o (IsOwned owners w)
    → IfSome o (IsOwned (owners ++ more) w)
named-more owners more w None h = h
named-more owners more w (Some opening) h = owned-more owners more w opening h

pub all_named-more : (owners more : List ℕ) (w : ℕ) (es : List Recorded) → AllNamed owners w es
    → AllNamed (owners ++ more) w es
all_named-more owners more w [] h = tt
all_named-more owners more w (e ∷ es) h = (
  named-more owners more w (named e.life) h.0,
  all_named-more owners more w es h.1,
)

pub all_owned-push : (owners : List ℕ) (w opening : ℕ) (cs : List OpenCarry) → IsOwned owners w opening
    → AllOwned owners w cs → AllOwned owners w (cs ++ record { opening = opening; carry = [] } ∷ [])
all_owned-push owners w opening [] o h = (o, tt)
all_owned-push owners w opening (c ∷ cs) o h = (h.0, all_owned-push owners w opening cs o h.1)

pub all_owned-set : (owners : List ℕ) (w opening : ℕ) (bytes : List ℕ) (cs : List OpenCarry) → AllOwned owners w cs
    → AllOwned owners w (set_carry cs opening bytes)
all_owned-set owners w opening bytes [] h = tt
all_owned-set owners w opening bytes (c ∷ cs) h =
    (elim (is_of opening c) as (λ b. is_of opening c ≡ b → AllOwned owners w
    (cond b (record { opening = opening; carry = bytes } ∷ cs) (c ∷ set_carry cs opening bytes))) [
      | true ↦ λ e.
          let same : c.opening ≡ opening = grind (arith, nat_tests) in (subst (IsOwned owners w) same h.0, h.1)
      | false ↦ λ e. (h.0, all_owned-set owners w opening bytes cs h.1)
    ]) refl

pub all_owned-without : (owners : List ℕ) (w opening : ℕ) (cs : List OpenCarry) → AllOwned owners w cs
    → AllOwned owners w (without_opening cs opening)
all_owned-without owners w opening [] h = tt
all_owned-without owners w opening (c ∷ cs) h =
    elim (is_of opening c) as (λ b. AllOwned owners w (cond (not b) (c ∷ without_opening cs opening)
    (without_opening cs opening))) [
      | true ↦ all_owned-without owners w opening cs h.1
      | false ↦ (h.0, all_owned-without owners w opening cs h.1)
    ]

pub owned-enlisted : (owners : List ℕ) (w opening : ℕ) (cs : List OpenCarry) → AllOwned owners w cs
    → list_any (is_of opening) cs ≡ true → IsOwned owners w opening
owned-enlisted owners w opening [] h e = cc
owned-enlisted owners w opening (c ∷ cs) h e =
    (elim (is_of opening c) as (λ b. is_of opening c ≡ b → (b || list_any (is_of opening) cs) ≡ true → IsOwned owners w
    opening) [
      | true ↦ λ t k. let same : c.opening ≡ opening = grind (arith, nat_tests) in subst (IsOwned owners w) same h.0
      | false ↦ λ t k. owned-enlisted owners w opening cs h.1 k
    ]) refl e

pub named-push : (owners : List ℕ) (w : ℕ) (es : List Recorded) (item : Item) → AllNamed owners w es
    → AllNamed owners w (es ++ fresh item ∷ [])
named-push owners w [] item h = (tt, tt)
named-push owners w (e ∷ es) item h = (h.0, named-push owners w es item h.1)

pub named-take : (owners : List ℕ) (w opening at : ℕ) (es : List Recorded) → IsOwned owners w opening
    → AllNamed owners w es → AllNamed owners w (take_first (Taken opening at) es)
named-take owners w opening at [] o h = tt
named-take owners w opening at (e ∷ es) o h =
    elim (pends e) as (λ b. AllNamed owners w (cond b (record { item = e.item; life = Taken opening at } ∷ es)
    (e ∷ take_first (Taken opening at) es))) [
      | true ↦ (o, h.1)
      | false ↦ (h.0, named-take owners w opening at es o h.1)
    ]

pub named-drop : (owners : List ℕ) (w at : ℕ) (es : List Recorded) → AllNamed owners w es
    → AllNamed owners w (all_dropped at es)
named-drop owners w at [] h = tt
named-drop owners w at (e ∷ es) h = (
  elim e.life as (λ l. IfSome (named l) (IsOwned owners w) → IfSome (named (drop_life at l)) (IsOwned owners w)) [
    | Pending ↦ λ k. k
    | Taken o a ↦ λ k. k
    | Back o a b ↦ λ k. k
    | Dropped a ↦ λ k. k
  ] h.0,
  named-drop owners w at es h.1,
)

pub named-written : (owners : List ℕ) (w at n : ℕ) (es : List Recorded) → AllNamed owners w es
    → AllNamed owners w (written_back at n es)
named-written owners w at zero es h = h
named-written owners w at (suc n) [] h = tt
named-written owners w at (suc zero) (e ∷ es) h = (
  subst (λ o. IfSome o (IsOwned owners w)) (sym (back-named at e.life))
      h.0,
  h.1,
)
named-written owners w at (suc (suc n)) (e ∷ es) h = (h.0, named-written owners w at (suc n) es h.1)

-- ---- what an opening took

pub spelled-push : (o : ℕ) (es : List Recorded) (item : Item) → spelled_in o (es ++ fresh item ∷ []) ≡ spelled_in o es
spelled-push o [] item = refl
spelled-push o (e ∷ es) item = rw (spelled-push o es item)

pub last-push : (o : ℕ) (last : List ℕ) (es : List Recorded) (item : Item)
    → last_spelled o last (es ++ fresh item ∷ []) ≡ last_spelled o last es
last-push o last [] item = refl
last-push o last (e ∷ es) item = last-push o (cond (took o e.life) (spelling e.item) last) es item

pub spelled-written : (o at n : ℕ) (es : List Recorded) → spelled_in o (written_back at n es) ≡ spelled_in o es
spelled-written o at zero es = refl
spelled-written o at (suc n) [] = refl
spelled-written o at (suc zero) (e ∷ es) = rw (back-took at o e.life)
spelled-written o at (suc (suc n)) (e ∷ es) = rw (spelled-written o at (suc n) es)

pub last-written : (o at n : ℕ) (last : List ℕ) (es : List Recorded)
    → last_spelled o last (written_back at n es) ≡ last_spelled o last es
last-written o at zero last es = refl
last-written o at (suc n) last [] = refl
last-written o at (suc zero) last (e ∷ es) = ap (λ b. last_spelled o (cond b (spelling e.item) last) es)
    (back-took at o e.life)
last-written o at (suc (suc n)) last (e ∷ es) = last-written o at (suc n) (cond (took o e.life) (spelling e.item) last)
    es

drop-took : (o at : ℕ) (life : Life) → took o (drop_life at life) ≡ took o life
drop-took o at Pending = refl
drop-took o at (Taken b a) = refl
drop-took o at (Back b a c) = refl
drop-took o at (Dropped a) = refl

pub spelled-dropped : (o at : ℕ) (es : List Recorded) → spelled_in o (all_dropped at es) ≡ spelled_in o es
spelled-dropped o at [] = refl
spelled-dropped o at (e ∷ es) = rw (drop-took o at e.life, spelled-dropped o at es)

pub last-dropped : (o at : ℕ) (last : List ℕ) (es : List Recorded)
    → last_spelled o last (all_dropped at es) ≡ last_spelled o last es
last-dropped o at last [] = refl
last-dropped o at last (e ∷ es) =
    ap (λ b. last_spelled o (cond b (spelling e.item) last) (all_dropped at es)) (drop-took o at e.life)
    ∙ (last-dropped o at (cond (took o e.life) (spelling e.item) last) es)

pending-took : (o : ℕ) (life : Life) → is_pending life ≡ true → took o life ≡ false
pending-took o Pending h = refl
pending-took o (Taken b a) h = cc
pending-took o (Back b a c) h = cc
pending-took o (Dropped a) h = cc

spelled-pending : (o : ℕ) (es : List Recorded) → all_pending es ≡ true → spelled_in o es ≡ []
spelled-pending o [] h = refl
spelled-pending o (e ∷ es) h =
    (elim (pends e) as (λ b. pends e ≡ b → (b && all_pending es) ≡ true → spelled_in o (e ∷ es) ≡ []) [
      | true ↦ λ t k. rw (pending-took o e.life t) (spelled-pending o es k)
      | false ↦ λ t k. cc
    ]) refl h

last-pending : (o : ℕ) (last : List ℕ) (es : List Recorded) → all_pending es ≡ true → last_spelled o last es ≡ last
last-pending o last [] h = refl
last-pending o last (e ∷ es) h =
    (elim (pends e) as (λ b. pends e ≡ b → (b && all_pending es) ≡ true → last_spelled o last (e ∷ es) ≡ last) [
      | true ↦ λ t k.
          ap (λ b. last_spelled o (cond b (spelling e.item) last) es) (pending-took o e.life t)
          ∙ last-pending o last es k
      | false ↦ λ t k. cc
    ]) refl h

-- another opening that takes an item
pub spelled-take_other : (o by at : ℕ) (es : List Recorded) → o ≢ by
    → spelled_in o (take_first (Taken by at) es) ≡ spelled_in o es
spelled-take_other o by at [] n = refl
spelled-take_other o by at (e ∷ es) n =
    (elim (pends e) as (λ b. pends e ≡ b → spelled_in o (cond b (record { item = e.item; life = Taken by at } ∷ es)
    (e ∷ take_first (Taken by at) es)) ≡ spelled_in o (e ∷ es)) [
      | true ↦ λ t. let other : (by == o) ≡ false = grind (arith, nat_tests) in rw (pending-took o e.life t, other)
      | false ↦ λ t. rw (spelled-take_other o by at es n)
    ]) refl

pub last-take_other : (o by at : ℕ) (last : List ℕ) (es : List Recorded) → o ≢ by
    → last_spelled o last (take_first (Taken by at) es) ≡ last_spelled o last es
last-take_other o by at last [] n = refl
last-take_other o by at last (e ∷ es) n =
    (elim (pends e) as (λ b. pends e ≡ b → last_spelled o last (cond b
    (record { item = e.item; life = Taken by at } ∷ es) (e ∷ take_first (Taken by at) es)) ≡ last_spelled o last
    (e ∷ es)) [
      | true ↦ λ t.
          let other : (by == o) ≡ false = grind (arith, nat_tests) in
          ap (λ b. last_spelled o (cond b (spelling e.item) last) es) (other ∙ sym (pending-took o e.life t))
      | false ↦ λ t. last-take_other o by at (cond (took o e.life) (spelling e.item) last) es n
    ]) refl

first_same : (x q : QueueItem) (xs qs : List QueueItem) → x ∷ xs ≡ q ∷ qs → x ≡ q
first_same x q xs qs h = cc

took_more : (b : Bool) (own before after bytes : List ℕ) → after ≡ before ++ bytes → cond b (own ++ after)
    after ≡ cond b (own ++ before) before ++ bytes
took_more true own before after bytes h = rw (h, append_assoc own before bytes)
took_more false own before after bytes h = h

-- the opening takes the first pending item
pub spelled-take : (by at low high n : ℕ) (es : List Recorded) (q : QueueItem) (qs : List QueueItem)
    → InOrder low high es → pending_from n es ≡ q ∷ qs → spelled_in by (take_first (Taken by at) es) ≡ spelled_in by es
    ++ q.bytes
spelled-take by at low high n [] q qs s h = cc
spelled-take by at low high n (e ∷ es) q qs s h =
    (elim e.life as (λ life. Follows (settled_at life) low high (all_pending es ≡ true) (λ a. InOrder a high es)
    → cond (is_pending life) (record { number = n; bytes = spelling e.item } ∷ pending_from (suc n) es)
    (pending_from (suc n) es) ≡ q ∷ qs → spelled_in by (cond (is_pending life)
    (record { item = e.item; life = Taken by at } ∷ es) (record { item = e.item; life = life } ∷ take_first
    (Taken by at) es)) ≡ cond (took by life) (spelling e.item ++ spelled_in by es) (spelled_in by es) ++ q.bytes) [
      | Pending ↦ λ s k.
          let bytes : spelling e.item ≡ q.bytes = ap (λ (x : QueueItem). x.bytes)
          (first_same (record { number = n; bytes = spelling e.item }) q (pending_from (suc n) es) qs k) in
          let own : (by == by) ≡ true = grind (arith, nat_tests) in
          rw (own, spelled-pending by es s, append-nil (spelling e.item)) bytes
      | Taken o a ↦ λ s k. took_more (o == by) (spelling e.item) (spelled_in by es)
          (spelled_in by (take_first (Taken by at) es)) q.bytes (spelled-take by at a high (suc n) es q qs s.2 k)
      | Back o a b ↦ λ s k. took_more (o == by) (spelling e.item) (spelled_in by es)
          (spelled_in by (take_first (Taken by at) es)) q.bytes (spelled-take by at a high (suc n) es q qs s.2 k)
      | Dropped a ↦ λ s k. spelled-take by at a high (suc n) es q qs s.2 k
    ]) s h

pub last-take : (by at low high n : ℕ) (last : List ℕ) (es : List Recorded) (q : QueueItem) (qs : List QueueItem)
    → InOrder low high es → pending_from n es ≡ q ∷ qs → last_spelled by last (take_first (Taken by at) es) ≡ q.bytes
last-take by at low high n last [] q qs s h = cc
last-take by at low high n last (e ∷ es) q qs s h =
    (elim e.life as (λ life. Follows (settled_at life) low high (all_pending es ≡ true) (λ a. InOrder a high es)
    → cond (is_pending life) (record { number = n; bytes = spelling e.item } ∷ pending_from (suc n) es)
    (pending_from (suc n) es) ≡ q ∷ qs → last_spelled by last (cond (is_pending life)
    (record { item = e.item; life = Taken by at } ∷ es) (record { item = e.item; life = life } ∷ take_first
    (Taken by at) es)) ≡ q.bytes) [
      | Pending ↦ λ s k.
          let bytes : spelling e.item ≡ q.bytes = ap (λ (x : QueueItem). x.bytes)
          (first_same (record { number = n; bytes = spelling e.item }) q (pending_from (suc n) es) qs k) in
          let own : (by == by) ≡ true = grind (arith, nat_tests) in
          ap (λ b. last_spelled by (cond b (spelling e.item) last) es) own ∙ last-pending by (spelling e.item) es s
          ∙ bytes
      | Taken o a ↦ λ s k. last-take by at a high (suc n) (cond (o == by) (spelling e.item) last) es q qs s.2 k
      | Back o a b ↦ λ s k. last-take by at a high (suc n) (cond (o == by) (spelling e.item) last) es q qs s.2 k
      | Dropped a ↦ λ s k. last-take by at a high (suc n) last es q qs s.2 k
    ]) s h
