-- What the list of items shows after each change.
use Rattle.std.proofs.Common.{◌≡◌, ℕ, zero, suc, ◌+◌, ◌-◌, ◌<◌, ◌≤◌, Bool, true, false, List, [], ◌∷◌, ◌++◌, length}
use Rattle.std.proofs.Common.{get_or, set, take, drop, slice_get, Some, None, refl, sym, subst, ap, ◌∙◌, arith, add-one}
use Rattle.std.proofs.Common.{take_all, drop-cons}
use Rattle.std.proofs.lemmas.List.{append_assoc, drop_all, take-append-le, take-take, length_push, length-take-le}
use Rattle.am_text.specs.Twice.{Twice, both}
use Rattle.win_events.specs.Spelling.{spelling}
use Rattle.am_journal.specs.declared.view.ItemView.{ItemView}
use Rattle.std.specs.Option.{option_map}
use Rattle.std.specs.List.{list_any}
use Rattle.win_events.specs.declared.item.Item.{Item}
use Rattle.win_events.specs.declared.item.BackMsg.{BackMsg}
use Rattle.win_events.specs.declared.item.Life.{Life}
use Rattle.win_events.specs.declared.item.Life.TheVariants.{Pending, Taken, Back, Dropped}
use Rattle.event_book.specs.Lives.{is_pending, is_taken, has_taken, pends, fresh, take_first, drop_life, with_drop}
use Rattle.event_book.specs.Lives.{all_dropped, back_life, written_back, numbered, views_from}
use Rattle.event_book.specs.Finding.{last_from, or_else, is_open_fit, is_back_fit, found_in}
use Rattle.event_book.specs.Shown.{shown, AreSettled, IsSplit, with_life_at, dropped_after, shown_life}
use Rattle.event_book.specs.declared.lives.Recorded.{Recorded}

pub shown-push : (n : ℕ) (es : List Recorded) (e : Recorded) → n ≤ length es → shown n (es ++ e ∷ []) ≡ shown n es
    ++ fresh e.item ∷ []
shown-push zero [] e l = refl
shown-push (suc n) [] e l = absurd (omega arith)
shown-push zero (x ∷ es) e l = ap (λ t. fresh x.item ∷ t) (shown-push zero es e (omega arith))
shown-push (suc n) (x ∷ es) e l = ap (λ t. x ∷ t) (shown-push n es e (omega arith))

pub length-shown : (n : ℕ) (es : List Recorded) → length (shown n es) ≡ length es
length-shown n [] = refl
length-shown zero (x ∷ es) = ap suc (length-shown zero es)
length-shown (suc n) (x ∷ es) = ap suc (length-shown n es)

pub length-with_life_at : (life : Life) (n : ℕ) (es : List Recorded) → length (with_life_at life n es) ≡ length es
length-with_life_at life n [] = refl
length-with_life_at life zero (x ∷ es) = refl
length-with_life_at life (suc n) (x ∷ es) = ap suc (length-with_life_at life n es)

pub take_first-shown : (life : Life) (n : ℕ) (es : List Recorded) → AreSettled n es → n < length es
    → take_first life (shown n es) ≡ shown (suc n) (with_life_at life n es)
take_first-shown life n [] s l = absurd (omega arith)
take_first-shown life zero (e ∷ es) s l = refl
take_first-shown life (suc n) (e ∷ es) s l = rw s.0 (ap (λ t. e ∷ t) (take_first-shown life n es s.1 (omega arith)))

pub take_first-none : (life : Life) (n : ℕ) (es : List Recorded) → AreSettled n es → length es ≤ n
    → take_first life (shown n es) ≡ shown n es
take_first-none life n [] s l = refl
take_first-none life zero (e ∷ es) s l = absurd (omega arith)
take_first-none life (suc n) (e ∷ es) s l = rw s.0 (ap (λ t. e ∷ t) (take_first-none life n es s.1 (omega arith)))

pub settled-one_more : (life : Life) (n : ℕ) (es : List Recorded) → is_pending life ≡ false → AreSettled n es
    → AreSettled (suc n) (with_life_at life n es)
settled-one_more life n [] p s = s
settled-one_more life zero (e ∷ []) p s = (p, tt)
settled-one_more life zero (e ∷ x ∷ es) p s = (p, tt)
settled-one_more life (suc n) (e ∷ es) p s = (s.0, settled-one_more life n es p s.1)

pub settled-less : (m n : ℕ) (es : List Recorded) → m ≤ n → AreSettled n es → AreSettled m es
settled-less m n [] l s = tt
settled-less zero n (e ∷ es) l s = tt
settled-less (suc m) zero (e ∷ es) l s = absurd (omega arith)
settled-less (suc m) (suc n) (e ∷ es) l s = (s.0, settled-less m n es (omega arith) s.1)

pub settled-take : (n k : ℕ) (es : List Recorded) → AreSettled n es → AreSettled n (take k es)
settled-take n zero es s = tt
settled-take n (suc k) [] s = tt
settled-take zero (suc k) (e ∷ es) s = tt
settled-take (suc n) (suc k) (e ∷ es) s = (s.0, settled-take n k es s.1)

pub settled-push : (n : ℕ) (es : List Recorded) (e : Recorded) → n ≤ length es → AreSettled n es
    → AreSettled n (es ++ e ∷ [])
settled-push zero [] e l s = tt
settled-push (suc n) [] e l s = absurd (omega arith)
settled-push zero (x ∷ es) e l s = tt
settled-push (suc n) (x ∷ es) e l s = (s.0, settled-push n es e (omega arith) s.1)

-- a life that isn't shown
pub shown-with_life_at : (life : Life) (m n k : ℕ) (es : List Recorded) → m ≤ n
    → shown m (take k (with_life_at life n es)) ≡ shown m (take k es)
shown-with_life_at life m n zero es l = refl
shown-with_life_at life m n (suc k) [] l = refl
shown-with_life_at life zero zero (suc k) (e ∷ es) l = refl
shown-with_life_at life (suc m) zero (suc k) (e ∷ es) l = absurd (omega arith)
shown-with_life_at life zero (suc n) (suc k) (e ∷ es) l = ap (λ t. fresh e.item ∷ t)
    (shown-with_life_at life zero n k es (omega arith))
shown-with_life_at life (suc m) (suc n) (suc k) (e ∷ es) l = ap (λ t. e ∷ t)
    (shown-with_life_at life m n k es (omega arith))

pub shown-all : (n : ℕ) (es : List Recorded) → length es ≤ n → shown n es ≡ es
shown-all n [] l = refl
shown-all zero (e ∷ es) l = absurd (omega arith)
shown-all (suc n) (e ∷ es) l = ap (λ t. e ∷ t) (shown-all n es (omega arith))

pub length-dropped_after : (at n : ℕ) (es : List Recorded) → length (dropped_after at n es) ≡ length es
length-dropped_after at n [] = refl
length-dropped_after at zero (e ∷ es) = ap suc (length-dropped_after at zero es)
length-dropped_after at (suc n) (e ∷ es) = ap suc (length-dropped_after at n es)

drop_life-settled : (at : ℕ) (life : Life) → is_pending life ≡ false → drop_life at life ≡ life
drop_life-settled at Pending p = cc
drop_life-settled at (Taken opening taken_at) p = refl
drop_life-settled at (Back opening taken_at back) p = refl
drop_life-settled at (Dropped dropped_at) p = refl

with_drop-settled : (at : ℕ) (e : Recorded) → pends e ≡ false → with_drop at e ≡ e
with_drop-settled at e p = rw (drop_life-settled at e.life p)

pub dropped-shown : (at n : ℕ) (es : List Recorded) → AreSettled n es
    → all_dropped at (shown n es) ≡ dropped_after at n es
dropped-shown at n [] s = refl
dropped-shown at zero (e ∷ []) s = refl
dropped-shown at zero (e ∷ x ∷ es) s = ap (λ t. record { item = e.item; life = Dropped at } ∷ t)
    (dropped-shown at zero (x ∷ es) tt)
dropped-shown at (suc n) (e ∷ es) s = rw (dropped-shown at n es s.1, with_drop-settled at e s.0)

pub settled-dropped : (at n m : ℕ) (es : List Recorded) → AreSettled n es → AreSettled m (dropped_after at n es)
settled-dropped at n m [] s = tt
settled-dropped at zero zero (e ∷ es) s = tt
settled-dropped at zero (suc m) (e ∷ []) s = (refl, tt)
settled-dropped at zero (suc m) (e ∷ x ∷ es) s = (refl, settled-dropped at zero m (x ∷ es) tt)
settled-dropped at (suc n) zero (e ∷ es) s = tt
settled-dropped at (suc n) (suc m) (e ∷ es) s = (s.0, settled-dropped at n m es s.1)

-- ---- one item written back

is_pending-back : (at : ℕ) (life : Life) → is_pending (back_life at life) ≡ is_pending life
is_pending-back at Pending = refl
is_pending-back at (Taken opening taken_at) = refl
is_pending-back at (Back opening taken_at back) = refl
is_pending-back at (Dropped dropped_at) = refl

pub written-shown : (at n k : ℕ) (es : List Recorded) (d : Recorded) → k < n → k < length es
    → written_back at (suc k) (shown n es) ≡ shown n (with_life_at (back_life at (get_or es k d).life) k es)
written-shown at n k [] d l h = absurd (omega arith)
written-shown at zero k (e ∷ es) d l h = absurd (omega arith)
written-shown at (suc n) zero (e ∷ es) d l h = refl
written-shown at (suc n) (suc k) (e ∷ es) d l h = ap (λ t. e ∷ t) (written-shown at n k es d (omega arith)
    (omega arith))

pub written-none : (at n k : ℕ) (es : List Recorded) → n ≤ k → written_back at (suc k) (shown n es) ≡ shown n es
written-none at n k [] l = refl
written-none at zero zero (e ∷ es) l = refl
written-none at zero (suc k) (e ∷ es) l = ap (λ t. fresh e.item ∷ t) (written-none at zero k es (omega arith))
written-none at (suc n) zero (e ∷ es) l = absurd (omega arith)
written-none at (suc n) (suc k) (e ∷ es) l = ap (λ t. e ∷ t) (written-none at n k es (omega arith))

pub settled-back : (at n k : ℕ) (es : List Recorded) (d : Recorded) → AreSettled n es
    → AreSettled n (with_life_at (back_life at (get_or es k d).life) k es)
settled-back at n k [] d s = tt
settled-back at zero zero (e ∷ es) d s = tt
settled-back at zero (suc k) (e ∷ es) d s = tt
settled-back at (suc n) zero (e ∷ es) d s = (is_pending-back at e.life ∙ s.0, s.1)
settled-back at (suc n) (suc k) (e ∷ es) d s = (s.0, settled-back at n k es d s.1)

-- ---- looking

last_from-pending : (p : Recorded → Bool) (k : ℕ) (es : List Recorded) → ((item : Item) → p (fresh item) ≡ false)
    → last_from p k (shown zero es) ≡ None
last_from-pending p k [] h = refl
last_from-pending p k (e ∷ es) h = rw (last_from-pending p (suc k) es h, h e.item)

pub last_from-shown : (p : Recorded → Bool) (n k : ℕ) (es : List Recorded) → ((item : Item) → p (fresh item) ≡ false)
    → last_from p k (take n es) ≡ last_from p k (shown n es)
last_from-shown p zero k [] h = refl
last_from-shown p (suc n) k [] h = refl
last_from-shown p zero k (e ∷ es) h = sym (last_from-pending p k (e ∷ es) h)
last_from-shown p (suc n) k (e ∷ es) h = ap (λ t. or_else t (p e) k) (last_from-shown p n (suc k) es h)

-- the last that passes, from its place
pub last-at : (p : Recorded → Bool) (k n m : ℕ) (es : List Recorded) (d : Recorded) → n < length es → m ≡ k + n
    → last_from p (suc m) (drop (suc n) es) ≡ None → p (get_or es n d) ≡ true → last_from p k es ≡ Some m
last-at p k n m [] d l e h t = absurd (omega arith)
last-at p k zero m (x ∷ es) d l e h t =
    let same : k ≡ m = omega (arith, e) in rw (same, h, t)
last-at p k (suc n) m (x ∷ es) d l e h t = rw (last-at p (suc k) n m es d (omega arith) (omega (arith, e)) h t)

pub last-step : (p : Recorded → Bool) (n : ℕ) (es : List Recorded) (d : Recorded) → n < length es
    → last_from p (suc (suc n)) (drop (suc n) es) ≡ None → p (get_or es n d) ≡ false → last_from p (suc n)
    (drop n es) ≡ None
last-step p n es d l h t = rw (drop-cons es n d l, h, t)

any-pending : (p : Recorded → Bool) (es : List Recorded) → ((item : Item) → p (fresh item) ≡ false)
    → list_any p (shown zero es) ≡ false
any-pending p [] h = refl
any-pending p (e ∷ es) h = rw (any-pending p es h, h e.item)

pub any-shown : (p : Recorded → Bool) (n : ℕ) (es : List Recorded) → ((item : Item) → p (fresh item) ≡ false)
    → list_any p (take n es) ≡ list_any p (shown n es)
any-shown p zero [] h = refl
any-shown p (suc n) [] h = refl
any-shown p zero (e ∷ es) h = sym (any-pending p (e ∷ es) h)
any-shown p (suc n) (e ∷ es) h = rw (any-shown p n es h)

pub item-shown : (n k : ℕ) (es : List Recorded) → option_map (λ (e : Recorded). e.item)
    (slice_get (shown n es) k) ≡ option_map (λ (e : Recorded). e.item) (slice_get es k)
item-shown n k [] = refl
item-shown zero zero (e ∷ es) = refl
item-shown zero (suc k) (e ∷ es) = item-shown zero k es
item-shown (suc n) zero (e ∷ es) = refl
item-shown (suc n) (suc k) (e ∷ es) = item-shown n k es

pub shown_life-settled : (es : List Recorded) (n i : ℕ) (d : Recorded) → i < n → i < length es
    → shown_life es n i ≡ (get_or es i d).life
shown_life-settled [] n i d l h = absurd (omega arith)
shown_life-settled (e ∷ es) zero i d l h = absurd (omega arith)
shown_life-settled (e ∷ es) (suc n) zero d l h = refl
shown_life-settled (e ∷ es) (suc n) (suc i) d l h = shown_life-settled es n i d (omega arith) (omega arith)

pub shown_life-pending : (es : List Recorded) (n i : ℕ) → n ≤ i → shown_life es n i ≡ Pending
shown_life-pending [] n i l = refl
shown_life-pending (e ∷ es) zero i l = refl
shown_life-pending (e ∷ es) (suc n) zero l = absurd (omega arith)
shown_life-pending (e ∷ es) (suc n) (suc i) l = shown_life-pending es n i (omega arith)

pub drop-shown : (n i : ℕ) (es : List Recorded) (d : Recorded) → i < length es
    → drop i (shown n es) ≡ record { item = (get_or es i d).item; life = shown_life es n i } ∷ drop (suc i) (shown n es)
drop-shown n i [] d l = absurd (omega arith)
drop-shown zero zero (e ∷ es) d l = refl
drop-shown zero (suc i) (e ∷ es) d l = rw (
  drop-shown zero i es d (omega arith),
  shown_life-pending es zero i (omega arith),
)
drop-shown (suc n) zero (e ∷ es) d l = refl
drop-shown (suc n) (suc i) (e ∷ es) d l = drop-shown n i es d (omega arith)

pub life_at-is : (life : Life) (k : ℕ) (es : List Recorded) (d : Recorded) → k < length es
    → set es k (record { item = (get_or es k d).item; life = life }) ≡ with_life_at life k es
life_at-is life k [] d l = absurd (omega arith)
life_at-is life zero (e ∷ es) d l = refl
life_at-is life (suc k) (e ∷ es) d l = ap (λ t. e ∷ t) (life_at-is life k es d (omega arith))

pub life_at-read : (life : Life) (k : ℕ) (es : List Recorded) (d : Recorded) → d ≡ get_or es k d → k < length es
    → set es k (record { item = d.item; life = life }) ≡ with_life_at life k es
life_at-read life k es d e l =
    ap (λ (r : Recorded). set es k (record { item = r.item; life = life })) e ∙ life_at-is life k es d l

-- dropping one more
pub dropped-step : (at n : ℕ) (es : List Recorded) → dropped_after at (suc n)
    (with_life_at (Dropped at) n es) ≡ dropped_after at n es
dropped-step at n [] = refl
dropped-step at zero (e ∷ es) = refl
dropped-step at (suc n) (e ∷ es) = ap (λ t. e ∷ t) (dropped-step at n es)

pub dropped-end : (at n : ℕ) (es : List Recorded) → length es ≤ n → dropped_after at n es ≡ es
dropped-end at n [] l = refl
dropped-end at zero (e ∷ es) l = absurd (omega arith)
dropped-end at (suc n) (e ∷ es) l = ap (λ t. e ∷ t) (dropped-end at n es (omega arith))

-- one more in the ledger
pub views-step : (w i n : ℕ) (es : List Recorded) (d : Recorded) (vs : List ItemView) → i < length es
    → (vs ++ record { window = w; number = i + 1; life = shown_life es n i; spelled = spelling (get_or es i d).item }
    ∷ []) ++ views_from w (suc (i + 1)) (drop (i + 1) (shown n es)) ≡ vs ++ views_from w (suc i) (drop i (shown n es))
views-step w i n es d vs l =
    rw (
      add-one,
      drop-shown n i es d l,
      append_assoc vs (record {
        window = w;
        number = suc i;
        life = shown_life es n i;
        spelled = spelling (get_or es i d).item;
      } ∷ []) (views_from w (suc (suc i)) (drop (suc i) (shown n es))),
    )

pub views-end : (w i n : ℕ) (es : List Recorded) → length es ≤ i → views_from w (suc i) (drop i (shown n es)) ≡ []
views-end w i n es l = rw (drop_all i (shown n es) (rw (length-shown n es) l))

-- ---- the states of a list after each call

pub pushed : (n k m : ℕ) (es : List Recorded) (e : Recorded) → n ≤ length es → k ≤ length es
    → ◌≡◌ {A = Twice (List Recorded)} (record {
      present = shown n (es ++ e ∷ []);
      kept = shown m (take k (es ++ e ∷ []));
    }) (record { present = shown n es ++ fresh e.item ∷ []; kept = shown m (take k es) })
pushed n k m es e l h = rw (shown-push n es e l, take-append-le k es (e ∷ []) h)

pub settled_as : (life : Life) (n k m : ℕ) (es : List Recorded) → AreSettled n es → n < length es → m ≤ n
    → ◌≡◌ {A = Twice (List Recorded)} (record {
      present = shown (n + 1) (with_life_at life n es);
      kept = shown m
          (take k (with_life_at life n es));
    }) (record { present = take_first life (shown n es); kept = shown m (take k es) })
settled_as life n k m es s l h = rw (add-one, take_first-shown life n es s l, shown-with_life_at life m n k es h)

pub none_settled : (life : Life) (n k m : ℕ) (es : List Recorded) → AreSettled n es → length es ≤ n
    → ◌≡◌ {A = Twice (List Recorded)} (record { present = shown n es; kept = shown m (take k es) })
    (record { present = take_first life (shown n es); kept = shown m (take k es) })
none_settled life n k m es s l = rw (take_first-none life n es s l)

pub all_now : (n k : ℕ) (es : List Recorded) → length es ≤ k → ◌≡◌ {A = Twice (List Recorded)}
    (record { present = shown n es; kept = shown n (take k es) }) (both (shown n es))
all_now n k es l = rw (take_all k es l)

pub dropped_now : (at n k m : ℕ) (es xs : List Recorded) → AreSettled n es → xs ≡ dropped_after at n es → length xs ≤ k
    → length xs ≤ m → ◌≡◌ {A = Twice (List Recorded)} (record { present = shown m xs; kept = shown m (take k xs) })
    (both (all_dropped at (shown n es)))
dropped_now at n k m es xs s e l h = rw (take_all k xs l, shown-all m xs h, e, dropped-shown at n es s)

pub back_now : (n k : ℕ) (es : List Recorded) → ◌≡◌ {A = Twice (List Recorded)}
    (record { present = shown n (take k es); kept = shown n (take k (take k es)) }) (both (shown n (take k es)))
back_now n k es = rw (take-take k k es (omega arith))

pub written_now : (at n k number : ℕ) (es xs : List Recorded) → shown n xs ≡ written_back at number (shown n es)
    → length xs ≤ k → ◌≡◌ {A = Twice (List Recorded)} (record { present = shown n xs; kept = shown n (take k xs) })
    (both (written_back at number (shown n es)))
written_now at n k number es xs e m = rw (take_all k xs m, e)

-- ---- the invariant after each call

pub split-new : IsSplit 0 0 0 []
split-new = record {
  within = omega arith;
  kept_within = omega arith;
  earlier = omega arith;
  kept_earlier = omega arith;
  ones = tt;
}

pub split-push : (n k m : ℕ) (es : List Recorded) (e : Recorded) → IsSplit n k m es → IsSplit n k m (es ++ e ∷ [])
split-push n k m es e s =
    let more = length_push es e in
    record {
      within = (let a = s.within in omega (arith, more, a));
      kept_within = (let a = s.kept_within in omega (arith, more, a));
      earlier = s.earlier;
      kept_earlier = s.kept_earlier;
      ones = settled-push n es e s.within s.ones;
    }

pub split-settle : (life : Life) (n k m : ℕ) (es : List Recorded) → IsSplit n k m es → n < length es
    → is_pending life ≡ false → IsSplit (n + 1) k m (with_life_at life n es)
split-settle life n k m es s l p =
    let same = length-with_life_at life n es in
    record {
      within = omega (arith, same, l);
      kept_within = (let a = s.kept_within in omega (arith, same, a));
      earlier = (let a = s.earlier in omega (arith, a));
      kept_earlier = s.kept_earlier;
      ones = rw add-one (settled-one_more life n es p s.ones);
    }

pub split-drop : (at n k m j : ℕ) (es xs : List Recorded) → IsSplit n k m es → xs ≡ dropped_after at n es
    → j ≡ length xs → IsSplit j j j xs
split-drop at n k m j es xs s e l = record {
  within = omega (arith, l);
  kept_within = omega (arith, l);
  earlier = omega arith;
  kept_earlier = omega arith;
  ones = subst (AreSettled j) (sym e) (settled-dropped at n j es s.ones);
}

pub split-back : (n k m : ℕ) (es : List Recorded) → IsSplit n k m es → IsSplit m k m (take k es)
split-back n k m es s =
    let cut = length-take-le k es s.kept_within in
    record {
      within = (let a = s.kept_earlier in omega (arith, cut, a));
      kept_within = omega (arith, cut);
      earlier = omega arith;
      kept_earlier = s.kept_earlier;
      ones = settled-take m k es (settled-less m n es s.earlier s.ones);
    }

pub split-keep : (n k m j : ℕ) (es : List Recorded) → IsSplit n k m es → j ≡ length es → IsSplit n j n es
split-keep n k m j es s l = record {
  within = s.within;
  kept_within = omega (arith, l);
  earlier = omega arith;
  kept_earlier = (let a = s.within in omega (arith, l, a));
  ones = s.ones;
}

pub split-written : (n k m j : ℕ) (es xs : List Recorded) → IsSplit n k m es → length xs ≡ length es
    → (AreSettled n es → AreSettled n xs) → j ≡ length xs → IsSplit n j n xs
split-written n k m j es xs s e ones l = record {
  within = (let a = s.within in omega (arith, e, a));
  kept_within = omega (arith, l);
  earlier = omega arith;
  kept_earlier = (let a = s.within in omega (arith, l, e, a));
  ones = ones s.ones;
}

-- ---- what the functions of the list answer

pub wrote : (at n number : ℕ) (es xs : List Recorded) (d : Recorded) → 0 < number → number ≤ n → n ≤ length es
    → xs ≡ with_life_at (back_life at (get_or es (number - 1) d).life) (number - 1) es
    → shown n xs ≡ written_back at number (shown n es)
wrote at n zero es xs d some l h e = absurd (omega arith)
wrote at n (suc j) es xs d some l h e =
    let before : suc j - 1 ≡ j = omega arith in
    ap (shown n) (e ∙ ap (λ i. with_life_at (back_life at (get_or es i d).life) i es) before)
    ∙ sym (written-shown at n j es d (omega arith) (omega arith))

pub not_wrote : (at n number : ℕ) (es : List Recorded) → n < number → shown n es ≡ written_back at number (shown n es)
not_wrote at n zero es l = absurd (omega arith)
not_wrote at n (suc j) es l = sym (written-none at n j es (omega arith))

pub wrote_zero : (at n number : ℕ) (es : List Recorded) → number ≡ 0 → shown n es ≡ written_back at number (shown n es)
wrote_zero at n zero es e = refl
wrote_zero at n (suc j) es e = absurd (omega (arith, e))

pub item_at : (n number : ℕ) (es : List Recorded) → 0 < number → option_map (λ (e : Recorded). e.item)
    (numbered (shown n es) number) ≡ option_map (λ (e : Recorded). e.item) (slice_get es (number - 1))
item_at n zero es l = absurd (omega arith)
item_at n (suc j) es l =
    let before : suc j - 1 ≡ j = omega arith in
    item-shown n j es ∙ ap (λ i. option_map (λ (e : Recorded). e.item) (slice_get es i)) (sym before)

taken_shown : (n j : ℕ) (es : List Recorded) (d : Recorded) → j < n → j < length es
    → has_taken (slice_get (shown n es) j) ≡ is_taken (get_or es j d).life
taken_shown n j [] d l h = absurd (omega arith)
taken_shown zero j (e ∷ es) d l h = absurd (omega arith)
taken_shown (suc n) zero (e ∷ es) d l h = refl
taken_shown (suc n) (suc j) (e ∷ es) d l h = taken_shown n j es d (omega arith) (omega arith)

taken_not : (n j : ℕ) (es : List Recorded) → n ≤ j → has_taken (slice_get (shown n es) j) ≡ false
taken_not n j [] l = refl
taken_not zero zero (e ∷ es) l = refl
taken_not zero (suc j) (e ∷ es) l = taken_not zero j es (omega arith)
taken_not (suc n) zero (e ∷ es) l = absurd (omega arith)
taken_not (suc n) (suc j) (e ∷ es) l = taken_not n j es (omega arith)

pub taken_at : (n number : ℕ) (es : List Recorded) (d : Recorded) → 0 < number → number ≤ n → n ≤ length es
    → has_taken (numbered (shown n es) number) ≡ is_taken (get_or es (number - 1) d).life
taken_at n zero es d some l h = absurd (omega arith)
taken_at n (suc j) es d some l h =
    let before : suc j - 1 ≡ j = omega arith in
    taken_shown n j es d (omega arith) (omega arith) ∙ ap (λ i. is_taken (get_or es i d).life) (sym before)

pub taken_past : (n number : ℕ) (es : List Recorded) → n < number → has_taken (numbered (shown n es) number) ≡ false
taken_past n zero es l = absurd (omega arith)
taken_past n (suc j) es l = taken_not n j es (omega arith)

pub taken_zero : (n number : ℕ) (es : List Recorded) → number ≡ 0 → has_taken (numbered (shown n es) number) ≡ false
taken_zero n zero es e = refl
taken_zero n (suc j) es e = absurd (omega (arith, e))

open_pending : (m : BackMsg) (item : Item) → is_open_fit m (fresh item) ≡ false
open_pending m item = refl

back_pending : (m : BackMsg) (item : Item) → is_back_fit m (fresh item) ≡ false
back_pending m item = refl

pub found-shown : (m : BackMsg) (n : ℕ) (es : List Recorded) → found_in m (take n es) ≡ found_in m (shown n es)
found-shown m n es =
    rw (last_from-shown (is_open_fit m) n 1 es (open_pending m), any-shown (is_back_fit m) n es (back_pending m))

pub get_some : (es : List Recorded) (k : ℕ) (d : Recorded) → k < length es → slice_get es k ≡ Some (get_or es k d)
get_some [] k d l = absurd (omega arith)
get_some (e ∷ es) zero d l = refl
get_some (e ∷ es) (suc k) d l = get_some es k d (omega arith)

pub get_none : (es : List Recorded) (k : ℕ) → length es ≤ k → slice_get es k ≡ None
get_none [] k l = refl
get_none (e ∷ es) zero l = absurd (omega arith)
get_none (e ∷ es) (suc k) l = get_none es k (omega arith)

abbrev view_as : ℕ → ℕ → Life → List ℕ → ItemView
view_as window number life spelled = record { window = window; number = number; life = life; spelled = spelled }

pub views_step_as : (w i n : ℕ) (es : List Recorded) (d : Recorded) (vs : List ItemView) (life : Life)
    (spelled : List ℕ) → i < length es → life ≡ shown_life es n i → spelled ≡ spelling d.item → d ≡ get_or es i d
    → (vs ++ record { window = w; number = i + 1; life = life; spelled = spelled } ∷ [])
    ++ views_from w (suc (i + 1)) (drop (i + 1) (shown n es)) ≡ vs ++ views_from w (suc i) (drop i (shown n es))
views_step_as w i n es d vs life spelled l a b e =
    ap (λ v. (vs ++ v ∷ []) ++ views_from w (suc (i + 1)) (drop (i + 1) (shown n es)))
    (ap (λ x. view_as w (i + 1) x spelled) a ∙ ap (λ x. view_as w (i + 1) (shown_life es n i) x)
    (b ∙ ap (λ (r : Recorded). spelling r.item) e))
    ∙ views-step w i n es d vs l
