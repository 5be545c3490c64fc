-- The files by window after each change, and that each call keeps the invariant.
use Rattle.std.proofs.Common.{◌≡◌, ◌≢◌, ◌==◌, ◌||◌, ℕ, suc, ◌-◌, ◌<◌, ◌≤◌, Bool, true, false, not, cond, nat_lt, List}
use Rattle.std.proofs.Common.{[], ◌∷◌, ◌++◌, length, drop, Option, Some, None, refl, sym, ap, ◌∙◌, subst, arith}
use Rattle.std.specs.List.{list_any}
use Rattle.std.proofs.lemmas.List.{append-nil, append_assoc, length-drop}
use Rattle.std.proofs.lemmas.Bool.Decides.{nat_tests}
use Rattle.win_events.specs.declared.item.Item.{Item}
use Rattle.win_events.specs.declared.item.Life.TheVariants.{Taken}
use Rattle.wait_queue.specs.Carry.{OpenCarry, carry_of, set_carry, without_opening, is_of}
use Rattle.wait_queue.specs.WaitState.{piece_of, after_piece, piece_from, after_from}
use Rattle.wait_queue.specs.Laws.{taken_by, taken_from}
use Rattle.wait_queue.specs.declared.types.Asker.{Asker}
use Rattle.wait_queue.specs.declared.pending.Pending.{Pending as QueueItem}
use Rattle.wait_queue.proofs.LawLemmas.{loses, leaves, carry-set}
use Rattle.event_book.specs.Lives.{fresh, all_dropped, written_back, pending_from}
use Rattle.event_book.specs.WindowFiles.{EventFile, WindowFile, unopened, queue_of, has_opening, is_enlisted, enlisted}
use Rattle.event_book.specs.WindowFiles.{with_item, items_after, given, with_written, left_with, left, deleted, is_used}
use Rattle.event_book.specs.WindowFiles.{listed, file_of, with_file}
use Rattle.event_book.specs.Laws.{InOrder, spelled_in, last_spelled, IsOwned, AllOwned, AllNamed, IsRest, IsLawfulFile}
use Rattle.event_book.specs.Laws.{WindowsRise}
use Rattle.event_book.specs.declared.lives.Recorded.{Recorded}
use Rattle.event_book.proofs.TableLemmas.{lt_not_eq, gt_not_eq, lt_true, eq_from_test, test_from_eq, lt_from_test}
use Rattle.event_book.proofs.TableLemmas.{lt_from_tests, unused}
use Rattle.event_book.proofs.OrderLemmas.{order-raise, order-push, order-take, order-drop, order-written}
use Rattle.event_book.proofs.OrderLemmas.{none_pending-written, none_pending-dropped, all_owned-more, all_named-more}
use Rattle.event_book.proofs.OrderLemmas.{all_owned-push, all_owned-set, all_owned-without, owned-enlisted, named-push}
use Rattle.event_book.proofs.OrderLemmas.{named-take, named-drop, named-written, spelled-push, last-push}
use Rattle.event_book.proofs.OrderLemmas.{spelled-written, last-written, spelled-take_other, last-take_other}
use Rattle.event_book.proofs.OrderLemmas.{spelled-take, last-take}

-- ---- files by window

file_of-rise : (low w : ℕ) (fs : List WindowFile) → WindowsRise low fs → w < low → file_of fs w ≡ unopened
file_of-rise low w [] s l = refl
file_of-rise low w (g ∷ gs) s l =
    rw (gt_not_eq g.window w (omega (arith, s.0))) (file_of-rise (suc g.window) w gs s.1 (omega (arith, s.0)))

listed-same : (w : ℕ) (f : EventFile) (fs : List WindowFile) → file_of fs w ≡ unopened → file_of (listed w f fs) w ≡ f
listed-same w f fs h =
    (elim (is_used f) as (λ b. is_used f ≡ b → file_of (cond b (record { window = w; file = f } ∷ fs) fs) w ≡ f) [
      | true ↦ λ u. rw (test_from_eq w w refl) refl
      | false ↦ λ u. h ∙ sym (unused f u)
    ]) refl

pub same_window : (low w : ℕ) (f : EventFile) (fs : List WindowFile) → WindowsRise low fs
    → file_of (with_file w f fs) w ≡ f
same_window low w f [] s = listed-same w f [] refl
same_window low w f (g ∷ gs) s =
    (elim (nat_lt g.window w) as (λ b. nat_lt g.window w ≡ b → file_of
    (cond b (g ∷ with_file w f gs) (cond (g.window == w) (listed w f gs) (listed w f (g ∷ gs)))) w ≡ f) [
      | true ↦ λ lt. rw (lt_not_eq g.window w (lt_from_test g.window w lt)) (same_window (suc g.window) w f gs s.1)
      | false ↦ λ ge.
          (elim (g.window == w) as (λ b. (g.window == w) ≡ b → file_of (cond b (listed w f gs) (listed w f (g ∷ gs)))
          w ≡ f) [
            | true ↦ λ e.
                let same = eq_from_test g.window w e in listed-same w f gs
                (file_of-rise (suc g.window) w gs s.1 (omega (arith, same)))
            | false ↦ λ n.
                let above = lt_from_tests g.window w ge n in
                listed-same w f (g ∷ gs) (file_of-rise g.window w (g ∷ gs) (omega arith, s.1) (omega (arith, above)))
          ]) refl
    ]) refl

listed-other : (w other : ℕ) (f : EventFile) (fs : List WindowFile) → other ≢ w
    → file_of (listed w f fs) other ≡ file_of fs other
listed-other w other f fs n =
    let no : (w == other) ≡ false = grind (arith, nat_tests) in
    elim (is_used f) as (λ b. file_of (cond b (record { window = w; file = f } ∷ fs) fs) other ≡ file_of fs other)
    [ true ↦ rw no refl | false ↦ refl ]

pub other_window : (w other : ℕ) (f : EventFile) (fs : List WindowFile) → other ≢ w
    → file_of (with_file w f fs) other ≡ file_of fs other
other_window w other f [] n = listed-other w other f [] n
other_window w other f (g ∷ gs) n =
    (elim (nat_lt g.window w) as (λ b. file_of (cond b (g ∷ with_file w f gs)
    (cond (g.window == w) (listed w f gs) (listed w f (g ∷ gs)))) other ≡ file_of (g ∷ gs) other) [
      | true ↦ ap (λ t. cond (g.window == other) g.file t) (other_window w other f gs n)
      | false ↦
          (elim (g.window == w) as (λ b. (g.window == w) ≡ b → file_of (cond b (listed w f gs) (listed w f (g ∷ gs)))
          other ≡ file_of (g ∷ gs) other) [
            | true ↦ λ e.
                let no : (g.window == other) ≡ false = grind (arith, nat_tests) in rw no (listed-other w other f gs n)
            | false ↦ λ e. listed-other w other f (g ∷ gs) n
          ]) refl
    ])

listed-rise : (low w : ℕ) (f : EventFile) (fs : List WindowFile) → low ≤ w → WindowsRise (suc w) fs → WindowsRise low fs
    → WindowsRise low (listed w f fs)
listed-rise low w f fs l s t =
    elim (is_used f) as (λ b. WindowsRise low (cond b (record { window = w; file = f } ∷ fs) fs))
    [ true ↦ (l, s) | false ↦ t ]

rise-less : (low m : ℕ) (fs : List WindowFile) → m ≤ low → WindowsRise low fs → WindowsRise m fs
rise-less low m [] l s = tt
rise-less low m (g ∷ gs) l s = (omega (arith, s.0), s.1)

pub rise-with : (low w : ℕ) (f : EventFile) (fs : List WindowFile) → low ≤ w → WindowsRise low fs
    → WindowsRise low (with_file w f fs)
rise-with low w f [] l s = listed-rise low w f [] l tt tt
rise-with low w f (g ∷ gs) l s =
    (elim (nat_lt g.window w) as (λ b. nat_lt g.window w ≡ b → WindowsRise low
    (cond b (g ∷ with_file w f gs) (cond (g.window == w) (listed w f gs) (listed w f (g ∷ gs))))) [
      | true ↦ λ lt. (s.0, rise-with (suc g.window) w f gs (lt_from_test g.window w lt) s.1)
      | false ↦ λ ge.
          (elim (g.window == w) as (λ b. (g.window == w) ≡ b → WindowsRise low
          (cond b (listed w f gs) (listed w f (g ∷ gs)))) [
            | true ↦ λ e.
                let same = eq_from_test g.window w e in
                let rest = rise-less (suc g.window) low gs (omega (arith, s.0)) s.1 in
                listed-rise low w f gs l (subst (λ n. WindowsRise (suc n) gs) same s.1) rest
            | false ↦ λ n. let above = lt_from_tests g.window w ge n in listed-rise low w f (g ∷ gs) l (above, s.1) s
          ]) refl
    ]) refl

-- ---- one file

no_rest : (es : List Recorded) (o : ℕ) → IsRest es o []
no_rest es o = record { before = spelled_in o es; joined = append-nil (spelled_in o es); proper = omega arith }

pub lawful_unopened : (owners : List ℕ) (latest w : ℕ) → IsLawfulFile owners latest w unopened
lawful_unopened owners latest w = record {
  order = tt;
  closed = λ _. refl;
  takers = tt;
  openers = tt;
  rests = λ o. no_rest [] o;
}

pub lawful-later : (owners : List ℕ) (latest at w : ℕ) (f : EventFile) → latest ≤ at → IsLawfulFile owners latest w f
    → IsLawfulFile owners at w f
lawful-later owners latest at w f l h = record {
  order = order-raise 0 latest at f.items l h.order;
  closed = h.closed;
  takers = h.takers;
  openers = h.openers;
  rests = h.rests;
}

pub lawful-more : (owners more : List ℕ) (latest w : ℕ) (f : EventFile) → IsLawfulFile owners latest w f
    → IsLawfulFile (owners ++ more) latest w f
lawful-more owners more latest w f h = record {
  order = h.order;
  closed = h.closed;
  takers = all_named-more owners more w f.items h.takers;
  openers = all_owned-more owners more w f.openings h.openers;
  rests = h.rests;
}

pub carry-enlisted : (cs : List OpenCarry) (x o : ℕ) → carry_of (cs ++ record { opening = x; carry = [] } ∷ [])
    o ≡ carry_of cs o
carry-enlisted [] x o = elim (x == o) as (λ b. cond {A = List ℕ} b [] [] ≡ []) [ true ↦ refl | false ↦ refl ]
carry-enlisted (c ∷ cs) x o = ap (λ t. cond (is_of o c) c.carry t) (carry-enlisted cs x o)

open-push : (cs : List OpenCarry) (c : OpenCarry) → nat_lt 0 (length (cs ++ c ∷ [])) ≡ true
open-push [] c = refl
open-push (x ∷ cs) c = lt_true 0 (suc (length (cs ++ c ∷ []))) (omega arith)

contradiction : {P : Type 0} (b : Bool) → b ≡ true → b ≡ false → P
contradiction b t f = cc

pub lawful-enlisted : (owners : List ℕ) (latest w o : ℕ) (f : EventFile) → IsOwned owners w o
    → IsLawfulFile owners latest w f → IsLawfulFile owners latest w (enlisted f o)
lawful-enlisted owners latest w o f own h = record {
  order = h.order;
  closed = λ k. contradiction (nat_lt 0 (length (f.openings ++ record { opening = o; carry = [] } ∷ [])))
      (open-push f.openings (record { opening = o; carry = [] })) k;
  takers = h.takers;
  openers = all_owned-push owners w o f.openings own h.openers;
  rests = λ x. subst (IsRest f.items x) (sym (carry-enlisted f.openings o x)) (h.rests x);
}

rest-as : (es es' : List Recorded) (o : ℕ) (carry : List ℕ) → spelled_in o es' ≡ spelled_in o es
    → last_spelled o [] es' ≡ last_spelled o [] es → IsRest es o carry → IsRest es' o carry
rest-as es es' o carry s l h = record { before = h.before; joined = h.joined ∙ sym s; proper = rw l h.proper }

pub lawful-put : (owners : List ℕ) (latest w : ℕ) (f : EventFile) (item : Item)
    → has_opening f ≡ true → IsLawfulFile owners latest w f → IsLawfulFile owners latest w (with_item f item)
lawful-put owners latest w f item o h = record {
  order = order-push 0 latest f.items item h.order;
  closed = λ k. contradiction (has_opening f) o k;
  takers = named-push owners w f.items item h.takers;
  openers = h.openers;
  rests = λ x. rest-as f.items (f.items ++ fresh item ∷ []) x (carry_of f.openings x) (spelled-push x f.items item)
      (last-push x [] f.items item) (h.rests x);
}

pub lawful-written : (owners : List ℕ) (latest w number at : ℕ) (f : EventFile) → IsLawfulFile owners latest w f
    → IsLawfulFile owners latest w (with_written f number at)
lawful-written owners latest w number at f h = record {
  order = order-written 0 latest at number f.items h.order;
  closed = λ k. none_pending-written at number f.items ∙ h.closed k;
  takers = named-written owners w at number f.items h.takers;
  openers = h.openers;
  rests = λ x. rest-as f.items (written_back at number f.items) x (carry_of f.openings x)
      (spelled-written x at number f.items) (last-written x at number [] f.items) (h.rests x);
}

pub lawful-deleted : (owners : List ℕ) (latest w at : ℕ) (f : EventFile) → latest ≤ at → IsLawfulFile owners latest w f
    → IsLawfulFile owners at w (deleted f at)
lawful-deleted owners latest w at f l h = record {
  order = order-drop 0 latest at f.items (omega arith) l h.order;
  closed = λ _. none_pending-dropped at f.items;
  takers = named-drop owners w at f.items h.takers;
  openers = tt;
  rests = λ x. no_rest (all_dropped at f.items) x;
}

pub carry-without : (cs : List OpenCarry) (o x : ℕ) → x ≢ o → carry_of (without_opening cs o) x ≡ carry_of cs x
carry-without [] o x n = refl
carry-without (c ∷ cs) o x n =
    (elim (is_of o c) as (λ b. is_of o c ≡ b → carry_of (cond (not b) (c ∷ without_opening cs o) (without_opening cs o))
    x ≡ carry_of (c ∷ cs) x) [
      | true ↦ λ e. let no : is_of x c ≡ false = grind (arith, nat_tests) in rw no (carry-without cs o x n)
      | false ↦ λ e. ap (λ t. cond (is_of x c) c.carry t) (carry-without cs o x n)
    ]) refl

carry-gone : (cs : List OpenCarry) (o : ℕ) → carry_of (without_opening cs o) o ≡ []
carry-gone [] o = refl
carry-gone (c ∷ cs) o =
    (elim (is_of o c) as (λ b. is_of o c ≡ b → carry_of (cond (not b) (c ∷ without_opening cs o) (without_opening cs o))
    o ≡ []) [
      | true ↦ λ e. carry-gone cs o
      | false ↦ λ e. rw e (carry-gone cs o)
    ]) refl

rest-without : (f : EventFile) (o x : ℕ) → ((y : ℕ) → IsRest f.items y (carry_of f.openings y))
    → IsRest f.items x (carry_of (without_opening f.openings o) x)
rest-without f o x h =
    (elim (x == o) as (λ b. (x == o) ≡ b → IsRest f.items x (carry_of (without_opening f.openings o) x)) [
      | true ↦ λ e.
          let same = eq_from_test x o e in
          subst (λ y. IsRest f.items y (carry_of (without_opening f.openings o) y)) (sym same)
          (subst (IsRest f.items o) (sym (carry-gone f.openings o)) (no_rest f.items o))
      | false ↦ λ e.
          let other : x ≢ o = grind (arith, nat_tests) in
          subst (IsRest f.items x) (sym (carry-without f.openings o x other)) (h x)
    ]) refl

left_rest : (owners : List ℕ) (latest w at : ℕ) (cs : List OpenCarry) (f : EventFile) → latest ≤ at
    → AllOwned owners w cs → ((x : ℕ) → IsRest f.items x (carry_of cs x)) → IsLawfulFile owners latest w f
    → IsLawfulFile owners at w (left_with cs at f)
left_rest owners latest w at [] f l own rests h = lawful-deleted owners latest w at f l h
left_rest owners latest w at (c ∷ cs) f l own rests h = record {
  order = order-raise 0 latest at f.items l h.order;
  closed = λ k. contradiction (nat_lt 0 (suc (length cs))) (lt_true 0 (suc (length cs)) (omega arith)) k;
  takers = h.takers;
  openers = own;
  rests = rests;
}

pub lawful-left : (owners : List ℕ) (latest w o at : ℕ) (f : EventFile) → latest ≤ at → IsLawfulFile owners latest w f
    → IsLawfulFile owners at w (left f o at)
lawful-left owners latest w o at f l h =
    left_rest owners latest w at (without_opening f.openings o) f l (all_owned-without owners w o f.openings h.openers)
    (λ x. rest-without f o x h.rests) h

-- ---- an answer to a read

took_from : (carry : List ℕ) (qs : List QueueItem) (f : EventFile) (r : Asker) (high at : ℕ)
    → pending_from 1 f.items ≡ qs → InOrder 0 high f.items → spelled_in r.opening
    (items_after (piece_from carry qs r.count).taken (Taken r.opening at) f.items) ≡ spelled_in r.opening f.items
    ++ taken_from carry qs
took_from (b ∷ bs) qs f r high at e h = sym (append-nil (spelled_in r.opening f.items))
took_from [] (q ∷ qs) f r high at e h = spelled-take r.opening at 0 high 1 f.items q qs h e
took_from [] [] f r high at e h = sym (append-nil (spelled_in r.opening f.items))

pub took_by : (f : EventFile) (r : Asker) (high at : ℕ) → InOrder 0 high f.items
    → spelled_in r.opening (given f r at).items ≡ spelled_in r.opening f.items ++ taken_by (queue_of f) r
took_by f r high at h =
    elim (r.count == 0) as (λ b. spelled_in r.opening (items_after
    (cond b (record { bytes = []; taken = None }) (piece_from (carry_of f.openings r.opening)
    (pending_from 1 f.items) r.count)).taken (Taken r.opening at) f.items) ≡ spelled_in r.opening f.items
    ++ cond b [] (taken_from (carry_of f.openings r.opening) (pending_from 1 f.items))) [
      | true ↦ sym (append-nil (spelled_in r.opening f.items))
      | false ↦ took_from (carry_of f.openings r.opening) (pending_from 1 f.items) f r high at refl h
    ]

proper_from : (carry : List ℕ) (qs : List QueueItem) (f : EventFile) (r : Asker) (high at : ℕ)
    → (r.count == 0) ≡ false → carry_of f.openings r.opening ≡ carry → pending_from 1 f.items ≡ qs → InOrder 0 high
    f.items → list_any (is_of r.opening) f.openings ≡ true → length carry ≤ length
    (last_spelled r.opening [] f.items) - 1 → length (carry_of (after_from carry qs (queue_of f) r).openings r.opening)
    ≤ length (last_spelled r.opening [] (items_after (piece_from carry qs r.count).taken (Taken r.opening at) f.items))
    - 1
proper_from (b ∷ bs) qs f r high at n e p h o l =
    rw (carry-set f.openings r.opening (drop r.count (b ∷ bs)) o) (let shorter = length-drop r.count (b ∷ bs) in
    omega (arith, shorter, l))
proper_from [] (q ∷ qs) f r high at n e p h o l =
    rw (carry-set f.openings r.opening (drop r.count q.bytes) o, last-take r.opening at 0 high 1 [] f.items q qs h p)
    (let shorter = length-drop r.count q.bytes in let some : 0 < r.count = grind (arith, nat_tests) in
    omega (arith, shorter, some))
proper_from [] [] f r high at n e p h o l = rw e (omega arith)

proper_given : (f : EventFile) (r : Asker) (high at : ℕ) → InOrder 0 high f.items
    → list_any (is_of r.opening) f.openings ≡ true → length (carry_of f.openings r.opening) ≤ length
    (last_spelled r.opening [] f.items) - 1 → length (carry_of (after_piece (queue_of f) r).openings r.opening) ≤ length
    (last_spelled r.opening [] (given f r at).items) - 1
proper_given f r high at h o l =
    (elim (r.count == 0) as (λ b. (r.count == 0) ≡ b → length (carry_of
    (cond b (queue_of f) (after_from (carry_of f.openings r.opening) (pending_from 1 f.items) (queue_of f)
    r)).openings r.opening) ≤ length (last_spelled r.opening []
    (items_after (cond b (record { bytes = []; taken = None })
    (piece_from (carry_of f.openings r.opening) (pending_from 1 f.items) r.count)).taken (Taken r.opening at)
    f.items)) - 1) [
      | true ↦ λ _. l
      | false ↦ λ n. proper_from (carry_of f.openings r.opening) (pending_from 1 f.items) f r high at n refl refl h o l
    ]) refl

-- what the opening was given grows by the piece
pub joined-given : (f : EventFile) (r : Asker) (high at : ℕ) → InOrder 0 high f.items
    → list_any (is_of r.opening) f.openings ≡ true → (s : IsRest f.items r.opening (carry_of f.openings r.opening))
    → (s.before ++ (piece_of (queue_of f) r).bytes) ++ carry_of (given f r at).openings
    r.opening ≡ spelled_in r.opening (given f r at).items
joined-given f r high at h o s =
    append_assoc s.before (piece_of (queue_of f) r).bytes (carry_of (after_piece (queue_of f) r).openings r.opening)
    ∙ ap (λ t. s.before ++ t) (loses (queue_of f) r o)
    ∙ sym (append_assoc s.before (carry_of f.openings r.opening) (taken_by (queue_of f) r))
    ∙ ap (λ t. t ++ taken_by (queue_of f) r) s.joined
    ∙ sym (took_by f r high at h)

pub rest-given : (f : EventFile) (r : Asker) (high at : ℕ) → InOrder 0 high f.items
    → list_any (is_of r.opening) f.openings ≡ true → IsRest f.items r.opening (carry_of f.openings r.opening)
    → IsRest (given f r at).items r.opening (carry_of (given f r at).openings r.opening)
rest-given f r high at h o s = record {
  before = s.before ++ (piece_of (queue_of f) r).bytes;
  joined = joined-given f r high at h o s;
  proper = proper_given f r high at h o s.proper;
}

pub spelled-after_other : (taken : Option ℕ) (o by at : ℕ) (es : List Recorded) → o ≢ by
    → spelled_in o (items_after taken (Taken by at) es) ≡ spelled_in o es
spelled-after_other None o by at es n = refl
spelled-after_other (Some number) o by at es n = spelled-take_other o by at es n

last-after_other : (taken : Option ℕ) (o by at : ℕ) (es : List Recorded) → o ≢ by
    → last_spelled o [] (items_after taken (Taken by at) es) ≡ last_spelled o [] es
last-after_other None o by at es n = refl
last-after_other (Some number) o by at es n = last-take_other o by at [] es n

rest-other : (f : EventFile) (r : Asker) (at o : ℕ) → o ≢ r.opening → IsRest f.items o (carry_of f.openings o)
    → IsRest (given f r at).items o (carry_of (given f r at).openings o)
rest-other f r at o n h =
    subst (IsRest (given f r at).items o) (sym (leaves (queue_of f) r o n))
    (rest-as f.items (given f r at).items o (carry_of f.openings o)
    (spelled-after_other (piece_of (queue_of f) r).taken o r.opening at f.items n)
    (last-after_other (piece_of (queue_of f) r).taken o r.opening at f.items n) h)

rest-any : (f : EventFile) (r : Asker) (high at o : ℕ) → InOrder 0 high f.items
    → list_any (is_of r.opening) f.openings ≡ true → ((x : ℕ) → IsRest f.items x (carry_of f.openings x))
    → IsRest (given f r at).items o (carry_of (given f r at).openings o)
rest-any f r high at o h e s =
    (elim (o == r.opening) as (λ b. (o == r.opening) ≡ b → IsRest (given f r at).items o
    (carry_of (given f r at).openings o)) [
      | true ↦ λ t.
          let same = eq_from_test o r.opening t in
          subst (λ x. IsRest (given f r at).items x (carry_of (given f r at).openings x)) (sym same)
          (rest-given f r high at h e (s r.opening))
      | false ↦ λ t. let other : o ≢ r.opening = grind (arith, nat_tests) in rest-other f r at o other (s o)
    ]) refl

order-after : (taken : Option ℕ) (high opening at : ℕ) (es : List Recorded) → high ≤ at → InOrder 0 high es
    → InOrder 0 at (items_after taken (Taken opening at) es)
order-after None high opening at es l h = order-raise 0 high at es l h
order-after (Some number) high opening at es l h = order-take 0 high opening at es (omega arith) l h

named-after : (taken : Option ℕ) (owners : List ℕ) (w opening at : ℕ) (es : List Recorded) → IsOwned owners w opening
    → AllNamed owners w es → AllNamed owners w (items_after taken (Taken opening at) es)
named-after None owners w opening at es o h = h
named-after (Some number) owners w opening at es o h = named-take owners w opening at es o h

-- a piece leaves the openings
module _ (P : List OpenCarry → Type 0) where
  openings_from : (carry : List ℕ) (qs : List QueueItem) (f : EventFile) (r : Asker) → P f.openings
      → ((bytes : List ℕ) → P (set_carry f.openings r.opening bytes)) → P (after_from carry qs (queue_of f) r).openings
  openings_from (b ∷ bs) qs f r h s = s (drop r.count (b ∷ bs))
  openings_from [] (q ∷ qs) f r h s = s (drop r.count q.bytes)
  openings_from [] [] f r h s = h

  pub openings_after : (f : EventFile) (r : Asker) → P f.openings →
      ((bytes : List ℕ) → P (set_carry f.openings r.opening bytes)) → P (after_piece (queue_of f) r).openings
  openings_after f r h s =
      elim (r.count == 0) as (λ b. P (cond b (queue_of f) (after_from (carry_of f.openings r.opening)
      (pending_from 1 f.items) (queue_of f) r)).openings) [
        | true ↦ h
        | false ↦ openings_from (carry_of f.openings r.opening) (pending_from 1 f.items) f r h s
      ]

any-set : (cs : List OpenCarry) (o x : ℕ) (bytes : List ℕ) → list_any (is_of x)
    (set_carry cs o bytes) ≡ list_any (is_of x) cs
any-set [] o x bytes = refl
any-set (c ∷ cs) o x bytes =
    (elim (is_of o c) as (λ b. is_of o c ≡ b → list_any (is_of x) (cond b (record { opening = o; carry = bytes } ∷ cs)
    (c ∷ set_carry cs o bytes)) ≡ list_any (is_of x) (c ∷ cs)) [
      | true ↦ λ e.
          let same : c.opening ≡ o = grind (arith, nat_tests) in ap (λ n. (n == x) || list_any (is_of x) cs) (sym same)
      | false ↦ λ e. ap (λ b. is_of x c || b) (any-set cs o x bytes)
    ]) refl

pub enlisted-given : (f : EventFile) (r : Asker) (at o : ℕ) → is_enlisted (given f r at) o ≡ is_enlisted f o
enlisted-given f r at o =
    openings_after (λ cs. list_any (is_of o) cs ≡ list_any (is_of o) f.openings) f r refl
    (λ bytes. any-set f.openings r.opening o bytes)

enlisted_open : (o : ℕ) (cs : List OpenCarry) → list_any (is_of o) cs ≡ true → nat_lt 0 (length cs) ≡ true
enlisted_open o [] h = cc
enlisted_open o (c ∷ cs) h = lt_true 0 (suc (length cs)) (omega arith)

pub lawful-given : (owners : List ℕ) (latest w at : ℕ) (f : EventFile) (r : Asker) → latest ≤ at
    → is_enlisted f r.opening ≡ true → IsLawfulFile owners latest w f → IsLawfulFile owners at w (given f r at)
lawful-given owners latest w at f r l o h = record {
  order = order-after (piece_of (queue_of f) r).taken latest r.opening at f.items l h.order;
  closed = λ k. contradiction (has_opening (given f r at)) (enlisted_open r.opening (given f r at).openings
      (enlisted-given f r at r.opening ∙ o)) k;
  takers = named-after (piece_of (queue_of f) r).taken owners w r.opening at f.items
      (owned-enlisted owners w r.opening f.openings h.openers o) h.takers;
  openers = openings_after (AllOwned owners w) f r h.openers (λ bytes. all_owned-set owners w r.opening bytes f.openings
      h.openers);
  rests = λ x. rest-any f r latest at x h.order o h.rests;
}
