-- What the table of event files shows after each change.
use Rattle.std.proofs.Common.{◌≡◌, ◌==◌, ◌||◌, ℕ, zero, suc, ◌<◌, ◌≤◌, Bool, true, false, not, cond, nat_lt, List, []}
use Rattle.std.proofs.Common.{◌∷◌, ◌++◌, length, get_or, set, refl, sym, ap, ◌∙◌, subst, arith, Result, Ok, Err, OnOk}
use Rattle.std.proofs.Common.{OnErr}
use Rattle.std.specs.List.{insert}
use Rattle.std.proofs.lemmas.Bool.Decides.{nat_tests}
use Rattle.am_text.specs.Twice.{Twice, both, IsSteady}
use Rattle.event_book.specs.WindowFiles.{EventFile, WindowFile, unopened, has_opening, is_enlisted, is_used, listed}
use Rattle.event_book.specs.WindowFiles.{file_of, with_file, ledger_of}
use Rattle.event_book.specs.Lives.{views_from}
use Rattle.event_book.specs.Table.{present_of, kept_of, files_in, Rises, place_of, is_at, has_window, is_touched}
use Rattle.event_book.specs.Table.{IsTracked, AreTracked, changed_in, with_present, with_kept, IsTable, IsReplaced}
use Rattle.event_book.specs.declared.file_table.FileAt.{FileAt}

-- ---- tests of numbers

pub lt_not_eq : (a b : ℕ) → a < b → (a == b) ≡ false
lt_not_eq a b l = grind (arith, nat_tests)

pub gt_not_eq : (a b : ℕ) → b < a → (a == b) ≡ false
gt_not_eq a b l = grind (arith, nat_tests)

pub lt_true : (a b : ℕ) → a < b → nat_lt a b ≡ true
lt_true a b l = grind (arith, nat_tests)

pub lt_false : (a b : ℕ) → b ≤ a → nat_lt a b ≡ false
lt_false a b l = grind (arith, nat_tests)

pub eq_from_test : (a b : ℕ) → (a == b) ≡ true → a ≡ b
eq_from_test a b e = grind (arith, nat_tests)

pub test_from_eq : (a b : ℕ) → a ≡ b → (a == b) ≡ true
test_from_eq a b e = grind (arith, nat_tests)

pub lt_from_test : (a b : ℕ) → nat_lt a b ≡ true → a < b
lt_from_test a b e = grind (arith, nat_tests)

pub le_from_test : (a b : ℕ) → nat_lt a b ≡ false → b ≤ a
le_from_test a b e = grind (arith, nat_tests)

pub lt_from_tests : (a b : ℕ) → nat_lt a b ≡ false → (a == b) ≡ false → b < a
lt_from_tests a b e n = grind (arith, nat_tests)

-- ---- a file without items and openings

pub true_false : (b : Bool) → b ≡ true → b ≡ false → ⊥
true_false b t f = cc

or_true : (a b : Bool) → a ≡ true → (a || b) ≡ false → ⊥
or_true true b t h = cc
or_true false b t h = cc

unused_is : (items : List _) (openings : List _) → is_used (record { items = items; openings = openings }) ≡ false → ◌≡◌
    {A = EventFile} (record { items = items; openings = openings }) unopened
unused_is [] [] h = refl
unused_is [] (o ∷ os) h = absurd (true_false (nat_lt 0 (suc (length os))) (lt_true 0 (suc (length os)) (omega arith)) h)
unused_is (i ∷ is) os h = absurd (or_true (nat_lt 0 (suc (length is))) (nat_lt 0 (length os))
    (lt_true 0 (suc (length is)) (omega arith)) h)

pub unused : (f : EventFile) → is_used f ≡ false → f ≡ unopened
unused f h = unused_is f.items f.openings h

-- ---- the places of windows

pub rises_less : (low m : ℕ) (rs : List FileAt) → m ≤ low → Rises low rs → Rises m rs
rises_less low m [] l s = tt
rises_less low m (r ∷ rs) l s = (omega (arith, s.0), s.1)

pub rises-at : (low k : ℕ) (rs : List FileAt) (d : FileAt) → Rises low rs → k < length rs → low ≤ (get_or rs k d).window
rises-at low k [] d s l = absurd (omega arith)
rises-at low zero (r ∷ rs) d s l = s.0
rises-at low (suc k) (r ∷ rs) d s l = let rest = rises-at (suc r.window) k rs d s.1 (omega arith) in
    omega (arith, s.0, rest)

pub window-at : (w k : ℕ) (rs : List FileAt) (d : FileAt) → is_at w k rs ≡ true → (get_or rs k d).window ≡ w
window-at w k [] d h = cc
window-at w zero (r ∷ rs) d h = eq_from_test r.window w h
window-at w (suc k) (r ∷ rs) d h = window-at w k rs d h

pub within-at : (w k : ℕ) (rs : List FileAt) → is_at w k rs ≡ true → k < length rs
within-at w k [] h = cc
within-at w zero (r ∷ rs) h = omega arith
within-at w (suc k) (r ∷ rs) h = let rest = within-at w k rs h in omega (arith, rest)

pub at_from : (w k : ℕ) (rs : List FileAt) (d : FileAt) → k < length rs
    → (get_or rs k d).window ≡ w → is_at w k rs ≡ true
at_from w k [] d l e = absurd (omega arith)
at_from w zero (r ∷ rs) d l e = test_from_eq r.window w e
at_from w (suc k) (r ∷ rs) d l e = at_from w k rs d (omega arith) e

pub rises-is_at : (low w k : ℕ) (rs : List FileAt) → Rises low rs → is_at w k rs ≡ true → low ≤ w
rises-is_at low w k [] s h = cc
rises-is_at low w zero (r ∷ rs) s h = let e = eq_from_test r.window w h in omega (arith, s.0, e)
rises-is_at low w (suc k) (r ∷ rs) s h = let rest = rises-is_at (suc r.window) w k rs s.1 h in omega (arith, s.0, rest)

pub place-above : (low w m : ℕ) (rs : List FileAt) (d : FileAt) → Rises low rs → m < length rs
    → (get_or rs m d).window < w → m < place_of w rs
place-above low w m [] d s l h = absurd (omega arith)
place-above low w zero (r ∷ rs) d s l h = rw (lt_true r.window w h) (omega arith)
place-above low w (suc m) (r ∷ rs) d s l h =
    let first = rises-at (suc r.window) m rs d s.1 (omega arith) in
    let rest = place-above (suc r.window) w m rs d s.1 (omega arith) h in
    rw (lt_true r.window w (omega (arith, first, h))) (omega (arith, rest))

pub place-below : (w m : ℕ) (rs : List FileAt) (d : FileAt) → m < length rs → w ≤ (get_or rs m d).window
    → place_of w rs ≤ m
place-below w m [] d l h = absurd (omega arith)
place-below w zero (r ∷ rs) d l h = rw (lt_false r.window w h) (omega arith)
place-below w (suc m) (r ∷ rs) d l h =
    (elim (nat_lt r.window w) as (λ b. cond b (suc (place_of w rs)) 0 ≤ suc m) [
      | true ↦ let rest = place-below w m rs d (omega arith) h in omega (arith, rest)
      | false ↦ omega arith
    ])

pub place-within : (w : ℕ) (rs : List FileAt) → place_of w rs ≤ length rs
place-within w [] = omega arith
place-within w (r ∷ rs) =
    (elim (nat_lt r.window w) as (λ b. cond b (suc (place_of w rs)) 0 ≤ suc (length rs)) [
      | true ↦ let rest = place-within w rs in omega (arith, rest)
      | false ↦ omega arith
    ])

pub absent_above : (low w : ℕ) (rs : List FileAt) → Rises low rs → w < low → has_window w rs ≡ false
absent_above low w [] s l = refl
absent_above low w (r ∷ rs) s l =
    rw (gt_not_eq r.window w (omega (arith, s.0)), absent_above (suc r.window) w rs s.1 (omega (arith, s.0)))

pub absent : (low w : ℕ) (rs : List FileAt) → Rises low rs → is_at w (place_of w rs) rs ≡ false → has_window w
    rs ≡ false
absent low w [] s h = refl
absent low w (r ∷ rs) s h =
    (elim (nat_lt r.window w) as (λ b. nat_lt r.window w ≡ b → is_at w (cond b (suc (place_of w rs)) 0)
    (r ∷ rs) ≡ false → has_window w (r ∷ rs) ≡ false) [
      | true ↦ λ e k. rw (lt_not_eq r.window w (lt_from_test r.window w e), absent (suc r.window) w rs s.1 k)
      | false ↦ λ e k. rw (
        k,
        absent_above (suc r.window) w rs s.1
            (let b = lt_from_tests r.window w e k in omega (arith, b)),
      )
    ]) refl h

-- ---- looking a file up

pub file_above : (p : FileAt → EventFile) (low w : ℕ) (rs : List FileAt) → Rises low rs → w < low
    → file_of (files_in p rs) w ≡ unopened
file_above p low w [] s l = refl
file_above p low w (r ∷ rs) s l =
    let rest = file_above p (suc r.window) w rs s.1 (omega (arith, s.0)) in
    elim (is_used (p r)) as (λ b. file_of (cond b (record { window = r.window; file = p r } ∷ files_in p rs)
    (files_in p rs)) w ≡ unopened) [
      | true ↦ rw (gt_not_eq r.window w (omega (arith, s.0))) rest
      | false ↦ rest
    ]

pub file_absent : (p : FileAt → EventFile) (w : ℕ) (rs : List FileAt)
    → has_window w rs ≡ false → file_of (files_in p rs) w ≡ unopened
file_absent p w [] h = refl
file_absent p w (r ∷ rs) h =
    (elim (r.window == w) as (λ b. (r.window == w) ≡ b → (b || has_window w rs) ≡ false → file_of (files_in p (r ∷ rs))
    w ≡ unopened) [
      | true ↦ λ e k. cc
      | false ↦ λ e k.
          elim (is_used (p r)) as (λ b. file_of (cond b (record { window = r.window; file = p r } ∷ files_in p rs)
          (files_in p rs)) w ≡ unopened) [
            | true ↦ rw e (file_absent p w rs k)
            | false ↦ file_absent p w rs k
          ]
    ]) refl h

pub file_found : (p : FileAt → EventFile) (low w k : ℕ) (rs : List FileAt) (d : FileAt) → Rises low rs
    → is_at w k rs ≡ true → file_of (files_in p rs) w ≡ p (get_or rs k d)
file_found p low w k [] d s h = cc
file_found p low w zero (r ∷ rs) d s h =
    (elim (is_used (p r)) as (λ b. is_used (p r) ≡ b → file_of (cond b
    (record { window = r.window; file = p r } ∷ files_in p rs) (files_in p rs)) w ≡ p r) [
      | true ↦ λ u. rw h refl
      | false ↦ λ u.
          file_above p (suc r.window) w rs s.1 (let e = eq_from_test r.window w h in omega (arith, e))
          ∙ sym (unused (p r) u)
    ]) refl
file_found p low w (suc k) (r ∷ rs) d s h =
    let low_of = rises-is_at (suc r.window) w k rs s.1 h in
    let rest = file_found p (suc r.window) w k rs d s.1 h in
    elim (is_used (p r)) as (λ b. file_of (cond b (record { window = r.window; file = p r } ∷ files_in p rs)
    (files_in p rs)) w ≡ p (get_or rs k d)) [
      | true ↦ rw (lt_not_eq r.window w (omega (arith, low_of))) rest
      | false ↦ rest
    ]

-- ---- a file replaced

with_file_above : (p : FileAt → EventFile) (low w : ℕ) (f : EventFile) (rs : List FileAt) → Rises low rs → w < low
    → with_file w f (files_in p rs) ≡ listed w f (files_in p rs)
with_file_above p low w f [] s l = refl
with_file_above p low w f (r ∷ rs) s l =
    elim (is_used (p r)) as (λ b. with_file w f (cond b (record { window = r.window; file = p r } ∷ files_in p rs)
    (files_in p rs)) ≡ listed w f (cond b (record { window = r.window; file = p r } ∷ files_in p rs)
    (files_in p rs))) [
      | true ↦ rw (lt_false r.window w (omega (arith, s.0)), gt_not_eq r.window w (omega (arith, s.0)))
      | false ↦ with_file_above p (suc r.window) w f rs s.1 (omega (arith, s.0))
    ]

pub replaced : (p : FileAt → EventFile) (low w k : ℕ) (rs : List FileAt) (r' : FileAt) → Rises low rs
    → is_at w k rs ≡ true → r'.window ≡ w → files_in p (set rs k r') ≡ with_file w (p r') (files_in p rs)
replaced p low w k [] r' s h e = cc
replaced p low w zero (r ∷ rs) r' s h e =
    let same = eq_from_test r.window w h in
    ap (λ n. listed n (p r') (files_in p rs)) e
    ∙ (elim (is_used (p r)) as (λ b. listed w (p r') (files_in p rs) ≡ with_file w (p r')
    (cond b (record { window = r.window; file = p r } ∷ files_in p rs) (files_in p rs))) [
      | true ↦ rw (lt_false r.window w (omega (arith, same)), h)
      | false ↦ sym (with_file_above p (suc r.window) w (p r') rs s.1 (omega (arith, same)))
    ])
replaced p low w (suc k) (r ∷ rs) r' s h e =
    let low_of = rises-is_at (suc r.window) w k rs s.1 h in
    let rest = replaced p (suc r.window) w k rs r' s.1 h e in
    elim (is_used (p r)) as (λ b. cond b (record { window = r.window; file = p r } ∷ files_in p (set rs k r'))
    (files_in p (set rs k r')) ≡ with_file w (p r') (cond b (record { window = r.window; file = p r } ∷ files_in
    p rs) (files_in p rs))) [
      | true ↦ rw (lt_true r.window w (omega (arith, low_of))) (ap (λ t. record { window = r.window; file = p r } ∷ t)
          rest)
      | false ↦ rest
    ]

pub not_shown : (p : FileAt → EventFile) (k : ℕ) (rs : List FileAt) (d r' : FileAt) → p r' ≡ p (get_or rs k d)
    → r'.window ≡ (get_or rs k d).window → files_in p (set rs k r') ≡ files_in p rs
not_shown p k [] d r' e w = refl
not_shown p zero (r ∷ rs) d r' e w =
    ap (λ n. listed n (p r') (files_in p rs)) w ∙ ap (λ f. listed r.window f (files_in p rs)) e
not_shown p (suc k) (r ∷ rs) d r' e w = ap (listed r.window (p r)) (not_shown p k rs d r' e w)

pub rises-set : (low k : ℕ) (rs : List FileAt) (d r' : FileAt) → Rises low rs → r'.window ≡ (get_or rs k d).window
    → Rises low (set rs k r')
rises-set low k [] d r' s e = tt
rises-set low zero (r ∷ rs) d r' s e = (omega (arith, s.0, e), subst (λ n. Rises (suc n) rs) (sym e) s.1)
rises-set low (suc k) (r ∷ rs) d r' s e = (s.0, rises-set (suc r.window) k rs d r' s.1 e)

pub tracked-set : (ws : List ℕ) (k : ℕ) (rs : List FileAt) (r' : FileAt) → AreTracked ws rs → IsTracked ws r'
    → AreTracked ws (set rs k r')
tracked-set ws k [] r' t h = tt
tracked-set ws zero (r ∷ rs) r' t h = (h, t.1)
tracked-set ws (suc k) (r ∷ rs) r' t h = (t.0, tracked-set ws k rs r' t.1 h)

pub tracked-at : (ws : List ℕ) (k : ℕ) (rs : List FileAt) (d : FileAt) → AreTracked ws rs → k < length rs
    → IsTracked ws (get_or rs k d)
tracked-at ws k [] d t l = absurd (omega arith)
tracked-at ws zero (r ∷ rs) d t l = t.0
tracked-at ws (suc k) (r ∷ rs) d t l = tracked-at ws k rs d t.1 (omega arith)

touched-push : (ws : List ℕ) (w x : ℕ) → is_touched ws x ≡ true → is_touched (ws ++ w ∷ []) x ≡ true
touched-push [] w x h = cc
touched-push (y ∷ ws) w x h =
    (elim (y == x) as (λ b. (b || is_touched ws x) ≡ true → (b || is_touched (ws ++ w ∷ []) x) ≡ true) [
      | true ↦ λ k. refl
      | false ↦ λ k. touched-push ws w x k
    ]) h

pub touched-last : (ws : List ℕ) (w : ℕ) → is_touched (ws ++ w ∷ []) w ≡ true
touched-last [] w = rw (test_from_eq w w refl) refl
touched-last (y ∷ ws) w =
    elim (y == w) as (λ b. (b || is_touched (ws ++ w ∷ []) w) ≡ true) [ true ↦ refl | false ↦ touched-last ws w ]

touched_same : (changed : Bool) (ws : List ℕ) (w x : ℕ) → x ≡ w → is_touched ws w ≡ true →
    (not changed || is_touched ws x) ≡ true
touched_same true ws w x e h = subst (λ n. is_touched ws n ≡ true) (sym e) h
touched_same false ws w x e h = refl

touched_or : (changed : Bool) (ws : List ℕ) (w x : ℕ) → (not changed || is_touched ws x) ≡ true →
    (not changed || is_touched (ws ++ w ∷ []) x) ≡ true
touched_or true ws w x h = touched-push ws w x h
touched_or false ws w x h = refl

pub tracked-push : (ws : List ℕ) (w : ℕ) (rs : List FileAt) → AreTracked ws rs → AreTracked (ws ++ w ∷ []) rs
tracked-push ws w [] t = tt
tracked-push ws w (r ∷ rs) t =
    (record { touched = touched_or r.changed ws w r.window t.0.touched; steady = t.0.steady }, tracked-push ws w rs t.1)

-- ---- a file put in

pub inserted : (p : FileAt → EventFile) (k : ℕ) (rs : List FileAt) (r' : FileAt)
    → p r' ≡ unopened → files_in p (insert rs k r') ≡ files_in p rs
inserted p zero rs r' e = ap (λ f. listed r'.window f (files_in p rs)) e
inserted p (suc k) [] r' e = ap (λ f. listed r'.window f []) e
inserted p (suc k) (r ∷ rs) r' e = ap (listed r.window (p r)) (inserted p k rs r' e)

pub rises-insert : (low w : ℕ) (rs : List FileAt) (r' : FileAt) → Rises low rs → low ≤ w
    → has_window w rs ≡ false → r'.window ≡ w → Rises low (insert rs (place_of w rs) r')
rises-insert low w [] r' s l h e = (omega (arith, e), tt)
rises-insert low w (r ∷ rs) r' s l h e =
    (elim (r.window == w) as (λ b. (r.window == w) ≡ b → (b || has_window w rs) ≡ false → Rises low
    (insert (r ∷ rs) (place_of w (r ∷ rs)) r')) [
      | true ↦ λ n k. cc
      | false ↦ λ n k.
          (elim (nat_lt r.window w) as (λ b. nat_lt r.window w ≡ b → Rises low
          (insert (r ∷ rs) (cond b (suc (place_of w rs)) 0) r')) [
            | true ↦ λ lt. (s.0, rises-insert (suc r.window) w rs r' s.1 (lt_from_test r.window w lt) k e)
            | false ↦ λ ge. let above = lt_from_tests r.window w ge n in
                (omega (arith, e, l), (omega (arith, e, above), s.1))
          ]) refl
    ]) refl h

pub tracked-insert : (ws : List ℕ) (k : ℕ) (rs : List FileAt) (r' : FileAt) → AreTracked ws rs → IsTracked ws r'
    → AreTracked ws (insert rs k r')
tracked-insert ws zero rs r' t h = (h, t)
tracked-insert ws (suc k) [] r' t h = (h, tt)
tracked-insert ws (suc k) (r ∷ rs) r' t h = (t.0, tracked-insert ws k rs r' t.1 h)

pub at-insert : (w : ℕ) (rs : List FileAt) (r' : FileAt) → r'.window ≡ w → is_at w (place_of w rs)
    (insert rs (place_of w rs) r') ≡ true
at-insert w [] r' e = test_from_eq r'.window w e
at-insert w (r ∷ rs) r' e =
    elim (nat_lt r.window w) as (λ b. is_at w (cond b (suc (place_of w rs)) 0)
    (insert (r ∷ rs) (cond b (suc (place_of w rs)) 0) r') ≡ true) [
      | true ↦ at-insert w rs r' e
      | false ↦ test_from_eq r'.window w e
    ]

-- ---- a window that isn't there

pub with_file_absent : (p : FileAt → EventFile) (low w : ℕ) (rs : List FileAt) → Rises low rs
    → has_window w rs ≡ false → with_file w unopened (files_in p rs) ≡ files_in p rs
with_file_absent p low w [] s h = refl
with_file_absent p low w (r ∷ rs) s h =
    (elim (r.window == w) as (λ b. (r.window == w) ≡ b → (b || has_window w rs) ≡ false → with_file w unopened
    (files_in p (r ∷ rs)) ≡ files_in p (r ∷ rs)) [
      | true ↦ λ n k. cc
      | false ↦ λ n k.
          let rest = with_file_absent p (suc r.window) w rs s.1 k in
          elim (is_used (p r)) as (λ b. with_file w unopened (cond b
          (record { window = r.window; file = p r } ∷ files_in p rs) (files_in p rs)) ≡ cond b
          (record { window = r.window; file = p r } ∷ files_in p rs) (files_in p rs)) [
            | true ↦
                rw n
                (elim (nat_lt r.window w) as (λ b. cond b (record { window = r.window; file = p r } ∷ with_file w
                unopened (files_in p rs)) (record { window = r.window; file = p r } ∷ files_in p rs)
                ≡ record { window = r.window; file = p r } ∷ files_in p rs) [
                  | true ↦ ap (λ t. record { window = r.window; file = p r } ∷ t) rest
                  | false ↦ refl
                ])
            | false ↦ rest
          ]
    ]) refl h

-- ---- kept, and taken back

changed_above : (low w : ℕ) (f : FileAt → FileAt) (rs : List FileAt) → Rises low rs → w < low → changed_in w f rs ≡ rs
changed_above low w f [] s l = refl
changed_above low w f (r ∷ rs) s l =
    rw (gt_not_eq r.window w (omega (arith, s.0)), changed_above (suc r.window) w f rs s.1 (omega (arith, s.0)))

pub changed_absent : (w : ℕ) (f : FileAt → FileAt) (rs : List FileAt) → has_window w rs ≡ false → changed_in w f rs ≡ rs
changed_absent w f [] h = refl
changed_absent w f (r ∷ rs) h =
    (elim (r.window == w) as (λ b. (b || has_window w rs) ≡ false → cond b (f r) r ∷ changed_in w f rs ≡ r ∷ rs) [
      | true ↦ λ k. cc
      | false ↦ λ k. ap (λ t. r ∷ t) (changed_absent w f rs k)
    ]) h

pub changed_at : (low w k : ℕ) (f : FileAt → FileAt) (rs : List FileAt) (d r' : FileAt) → Rises low rs
    → is_at w k rs ≡ true → r' ≡ f (get_or rs k d) → set rs k r' ≡ changed_in w f rs
changed_at low w k f [] d r' s h e = cc
changed_at low w zero f (r ∷ rs) d r' s h e =
    let same = eq_from_test r.window w h in
    rw (h, e, changed_above (suc r.window) w f rs s.1 (omega (arith, same)))
changed_at low w (suc k) f (r ∷ rs) d r' s h e =
    let low_of = rises-is_at (suc r.window) w k rs s.1 h in
    rw (lt_not_eq r.window w (omega (arith, low_of))) (ap (λ t. r ∷ t)
    (changed_at (suc r.window) w k f rs d r' s.1 h e))

pub present-kept : (w : ℕ) (rs : List FileAt) → files_in present_of (changed_in w with_present rs)
    ≡ files_in present_of rs
present-kept w [] = refl
present-kept w (r ∷ rs) =
    elim (r.window == w) as (λ b. files_in present_of (cond b (with_present r) r ∷ changed_in w with_present rs)
    ≡ files_in present_of (r ∷ rs)) [
      | true ↦ ap (listed r.window r.file.present) (present-kept w rs)
      | false ↦ ap (listed r.window r.file.present) (present-kept w rs)
    ]

pub kept-back : (w : ℕ) (rs : List FileAt) → files_in kept_of (changed_in w with_kept rs) ≡ files_in kept_of rs
kept-back w [] = refl
kept-back w (r ∷ rs) =
    elim (r.window == w) as (λ b. files_in kept_of (cond b (with_kept r) r ∷ changed_in w with_kept rs)
    ≡ files_in kept_of (r ∷ rs)) [
      | true ↦ ap (listed r.window r.file.kept) (kept-back w rs)
      | false ↦ ap (listed r.window r.file.kept) (kept-back w rs)
    ]

-- a change that leaves the window and clears the mark
pub rises-changed : (low w : ℕ) (f : FileAt → FileAt) (rs : List FileAt) → ((r : FileAt) → (f r).window ≡ r.window)
    → Rises low rs → Rises low (changed_in w f rs)
rises-changed low w f [] same s = tt
rises-changed low w f (r ∷ rs) same s =
    elim (r.window == w) as (λ b. Rises low (cond b (f r) r ∷ changed_in w f rs)) [
      | true ↦ (
        omega (arith, s.0, same r),
        subst (λ n. Rises (suc n) (changed_in w f rs)) (sym (same r))
            (rises-changed (suc r.window) w f rs same s.1),
      )
      | false ↦ (s.0, rises-changed (suc r.window) w f rs same s.1)
    ]

touched-pop : (ws : List ℕ) (w x : ℕ) → (x == w) ≡ false → is_touched (ws ++ w ∷ []) x ≡ true → is_touched ws x ≡ true
touched-pop [] w x n h = grind (arith, nat_tests)
touched-pop (y ∷ ws) w x n h =
    (elim (y == x) as (λ b. (b || is_touched (ws ++ w ∷ []) x) ≡ true → (b || is_touched ws x) ≡ true) [
      | true ↦ λ k. refl
      | false ↦ λ k. touched-pop ws w x n k
    ]) h

touched_or-pop : (changed : Bool) (ws : List ℕ) (w x : ℕ) → (x == w) ≡ false →
    (not changed || is_touched (ws ++ w ∷ []) x) ≡ true → (not changed || is_touched ws x) ≡ true
touched_or-pop true ws w x n h = touched-pop ws w x n h
touched_or-pop false ws w x n h = refl

pub tracked-pop : (ws : List ℕ) (w : ℕ) (f : FileAt → FileAt) (rs : List FileAt) → ((r : FileAt) → IsTracked ws (f r))
    → AreTracked (ws ++ w ∷ []) rs → AreTracked ws (changed_in w f rs)
tracked-pop ws w f [] h t = tt
tracked-pop ws w f (r ∷ rs) h t =
    (elim (r.window == w) as (λ b. (r.window == w) ≡ b → AreTracked ws (cond b (f r) r ∷ changed_in w f rs)) [
      | true ↦ λ e. (h r, tracked-pop ws w f rs h t.1)
      | false ↦ λ e. (
        record { touched = touched_or-pop r.changed ws w r.window e t.0.touched; steady = t.0.steady },
        tracked-pop ws w f rs h t.1,
      )
    ]) refl

pub unchanged_tracked : (ws : List ℕ) (r : FileAt) → r.changed ≡ false → IsSteady r.file → IsTracked ws r
unchanged_tracked ws r e s = record { touched = rw e refl; steady = λ _. s }

not_changed : (changed : Bool) (x : ℕ) → (not changed || is_touched [] x) ≡ true → changed ≡ false
not_changed true x h = cc
not_changed false x h = refl

pub all_steady : (rs : List FileAt) → AreTracked [] rs → files_in present_of rs ≡ files_in kept_of rs
all_steady [] t = refl
all_steady (r ∷ rs) t =
    let same : r.file.present ≡ r.file.kept = t.0.steady (not_changed r.changed r.window t.0.touched) in
    ap (λ f. listed r.window f (files_in present_of rs)) same ∙ ap (listed r.window r.file.kept) (all_steady rs t.1)

-- ---- the ledger

pub ledger-step : (r : FileAt) (rs : List FileAt) → ledger_of (files_in present_of (r ∷ rs)) ≡ views_from r.window 1
    r.file.present.items ++ ledger_of (files_in present_of rs)
ledger-step r rs =
    (elim (is_used r.file.present) as (λ b. is_used r.file.present ≡ b →
    ledger_of (cond b (record { window = r.window; file = r.file.present } ∷ files_in present_of rs)
    (files_in present_of rs)) ≡ views_from r.window 1 r.file.present.items ++ ledger_of (files_in present_of rs)) [
      | true ↦ λ u. refl
      | false ↦ λ u. rw (unused r.file.present u) refl
    ]) refl

-- ---- what the functions of the table answer

pub at-read : (w k : ℕ) (rs : List FileAt) (d : FileAt) → k < length rs → is_at w k rs ≡ ((get_or rs k d).window == w)
at-read w k [] d l = absurd (omega arith)
at-read w zero (r ∷ rs) d l = refl
at-read w (suc k) (r ∷ rs) d l = at-read w k rs d (omega arith)

pub at-past : (w k : ℕ) (rs : List FileAt) → length rs ≤ k → is_at w k rs ≡ false
at-past w k [] l = refl
at-past w zero (r ∷ rs) l = absurd (omega arith)
at-past w (suc k) (r ∷ rs) l = at-past w k rs (omega arith)

pub grown_table : (ws : List ℕ) (w k : ℕ) (rs : List FileAt) (d r' : FileAt) → IsTable ws rs
    → is_touched ws w ≡ true → d ≡ get_or rs k d → r'.window ≡ d.window → is_at w k rs ≡ true → r'.changed ≡ true →
    IsTable ws (set rs k r')
grown_table ws w k rs d r' t own e same a c =
    let window : r'.window ≡ w = same ∙ ap (λ (r : FileAt). r.window) e ∙ window-at w k rs d a in
    record {
      rises = rises-set 0 k rs d r' t.rises (same ∙ ap (λ (r : FileAt). r.window) e);
      tracked = tracked-set ws k rs r' t.tracked (record {
        touched = touched_same r'.changed ws w r'.window window own;
        steady = λ n. absurd (true_false r'.changed c n);
      });
    }

pub pushed_table : (ws : List ℕ) (w : ℕ) (rs : List FileAt) → IsTable ws rs → IsTable (ws ++ w ∷ []) rs
pushed_table ws w rs t = record { rises = t.rises; tracked = tracked-push ws w rs t.tracked }

pub grown_from : (op : EventFile → EventFile) (w k : ℕ) (rs : List FileAt) (fs : List WindowFile) (d r' : FileAt)
    → files_in present_of rs ≡ fs → Rises 0 rs → is_at w k rs ≡ true → d ≡ get_or rs k d
    → r'.window ≡ d.window → r'.file ≡ record d.file { present = op d.file.present }
    → files_in present_of (set rs k r') ≡ with_file w (op (file_of fs w)) fs
grown_from op w k rs fs d r' f s a e same p =
    let own : r'.window ≡ w = same ∙ ap (λ (r : FileAt). r.window) e ∙ window-at w k rs d a in
    let here : file_of fs w ≡ d.file.present =
    (ap (λ gs. file_of gs w) (sym f) ∙ file_found present_of 0 w k rs d s a ∙ sym (ap present_of e))
    in
    replaced present_of 0 w k rs r' s a own
    ∙ ap (λ (t : Twice EventFile). with_file w t.present (files_in present_of rs)) p
    ∙ ap (λ gs. with_file w (op d.file.present) gs) f
    ∙ ap (λ g. with_file w (op g) fs) (sym here)

pub grown_kept : (k : ℕ) (rs : List FileAt) (d r' : FileAt) → d ≡ get_or rs k d
    → r'.window ≡ d.window → r'.file.kept ≡ d.file.kept → files_in kept_of (set rs k r') ≡ files_in kept_of rs
grown_kept k rs d r' e same p =
    not_shown kept_of k rs d r' (p ∙ ap kept_of e) (same ∙ ap (λ (r : FileAt). r.window) e)

-- a file looked up at its place
pub present_at : (w k : ℕ) (rs : List FileAt) (d : FileAt) → Rises 0 rs → is_at w k rs ≡ true → d ≡ get_or rs k d
    → file_of (files_in present_of rs) w ≡ d.file.present
present_at w k rs d s a e = file_found present_of 0 w k rs d s a ∙ sym (ap present_of e)

pub kept_at : (w k : ℕ) (rs : List FileAt) (d : FileAt) → Rises 0 rs → is_at w k rs ≡ true → d ≡ get_or rs k d
    → file_of (files_in kept_of rs) w ≡ d.file.kept
kept_at w k rs d s a e = file_found kept_of 0 w k rs d s a ∙ sym (ap kept_of e)

-- where both states of the table are equal, those of each file are
pub steady_at : (w k : ℕ) (rs : List FileAt) (d : FileAt) → Rises 0 rs → is_at w k rs ≡ true → d ≡ get_or rs k d
    → files_in present_of rs ≡ files_in kept_of rs → IsSteady d.file
steady_at w k rs d s a e h =
    sym (present_at w k rs d s a e) ∙ ap (λ fs. file_of fs w) h ∙ kept_at w k rs d s a e

replaced_at : (w k : ℕ) (rs : List FileAt) (d r' : FileAt) (f : EventFile) → Rises 0 rs
    → is_at w k rs ≡ true → d ≡ get_or rs k d → k < length rs → files_in present_of rs ≡ files_in kept_of rs
    → r'.window ≡ d.window → r'.changed ≡ d.changed → r'.file ≡ both f → IsReplaced w f rs (set rs k r')
replaced_at w k rs d r' f s a e l h same c b =
    let own : r'.window ≡ w = same ∙ ap (λ (r : FileAt). r.window) e ∙ window-at w k rs d a in
    record {
      rises = rises-set 0 k rs d r' s (same ∙ ap (λ (r : FileAt). r.window) e);
      tracked = λ ws t.
          tracked-set ws k rs r' t
          (let one = tracked-at ws k rs d t l in
          record {
            touched = subst (λ (x : Bool). (not x || is_touched ws r'.window) ≡ true)
                (sym (c ∙ ap (λ (r : FileAt). r.changed) e)) (subst
                (λ n. (not (get_or rs k d).changed || is_touched ws n) ≡ true)
                (sym (same ∙ ap (λ (r : FileAt). r.window) e)) one.touched);
            steady = λ _. ap (λ (t : Twice EventFile). t.present) b ∙ sym (ap (λ (t : Twice EventFile). t.kept) b);
          });
      present = replaced present_of 0 w k rs r' s a own ∙ ap (λ (t : Twice EventFile). with_file w t.present
          (files_in present_of rs)) b;
      kept = replaced kept_of 0 w k rs r' s a own ∙ ap (λ (t : Twice EventFile). with_file w t.kept
          (files_in kept_of rs)) b ∙ ap (λ fs. with_file w f fs) (sym h);
    }

-- where the window isn't there nothing changes
pub replaced_none : (w : ℕ) (rs : List FileAt) (f : EventFile) → Rises 0 rs
    → has_window w rs ≡ false → files_in present_of rs ≡ files_in kept_of rs → f ≡ unopened → IsReplaced w f rs rs
replaced_none w rs f s a h u = record {
  rises = s;
  tracked = λ ws t. t;
  present = sym (ap (λ g. with_file w g (files_in present_of rs)) u ∙ with_file_absent present_of 0 w rs s a);
  kept = sym h ∙ sym (ap (λ g. with_file w g (files_in present_of rs)) u ∙ with_file_absent present_of 0 w rs s a);
}

pub inserted_table : (ws : List ℕ) (w : ℕ) (rs : List FileAt) (r' : FileAt) → IsTable ws rs
    → has_window w rs ≡ false → r'.window ≡ w → r'.changed ≡ false → r'.file ≡ both unopened
    → IsTable ws (insert rs (place_of w rs) r')
inserted_table ws w rs r' t a e c b = record {
  rises = rises-insert 0 w rs r' t.rises (omega arith) a e;
  tracked = tracked-insert ws (place_of w rs) rs r' t.tracked (unchanged_tracked ws r' c
      (ap (λ (t : Twice EventFile). t.present) b ∙ sym (ap (λ (t : Twice EventFile). t.kept) b)));
}

-- one window of the touched ones kept, or taken back
pub kept_step : (ws vs : List ℕ) (w : ℕ) (rs before : List FileAt) → vs ≡ ws ++ w ∷ [] → IsTable vs rs
    → files_in present_of rs ≡ files_in present_of before → IsTable ws (changed_in w with_present rs)
    × (files_in present_of (changed_in w with_present rs) ≡ files_in present_of before)
kept_step ws vs w rs before e t h = (
  record {
    rises = rises-changed 0 w with_present rs (λ r. refl) t.rises;
    tracked = tracked-pop ws w with_present rs (λ r. unchanged_tracked ws (with_present r) refl refl)
        (subst (λ v. AreTracked v rs) e t.tracked);
  },
  present-kept w rs ∙ h,
)

pub back_step : (ws vs : List ℕ) (w : ℕ) (rs before : List FileAt) → vs ≡ ws ++ w ∷ [] → IsTable vs rs
    → files_in kept_of rs ≡ files_in kept_of before → IsTable ws (changed_in w with_kept rs)
    × (files_in kept_of (changed_in w with_kept rs) ≡ files_in kept_of before)
back_step ws vs w rs before e t h = (
  record {
    rises = rises-changed 0 w with_kept rs (λ r. refl) t.rises;
    tracked = tracked-pop ws w with_kept rs (λ r. unchanged_tracked ws (with_kept r) refl refl)
        (subst (λ v. AreTracked v rs) e t.tracked);
  },
  kept-back w rs ∙ h,
)

-- both states after all were kept, or taken back
pub all_kept : (rs before : List FileAt) → IsTable [] rs → files_in present_of rs ≡ files_in present_of before
    → ◌≡◌ {A = Twice (List WindowFile)} (record { present = files_in present_of rs; kept = files_in kept_of rs })
    (both (files_in present_of before))
all_kept rs before t h = rw (sym (all_steady rs t.tracked), h)

pub all_back : (rs before : List FileAt) → IsTable [] rs → files_in kept_of rs ≡ files_in kept_of before
    → ◌≡◌ {A = Twice (List WindowFile)} (record { present = files_in present_of rs; kept = files_in kept_of rs })
    (both (files_in kept_of before))
all_back rs before t h = rw (all_steady rs t.tracked, h)

pub replaced_as : (op : EventFile → EventFile) (w k : ℕ) (rs : List FileAt) (d r' : FileAt) → Rises 0 rs
    → is_at w k rs ≡ true → d ≡ get_or rs k d → k < length rs → files_in present_of rs ≡ files_in kept_of rs
    → r'.window ≡ d.window → r'.changed ≡ d.changed → r'.file ≡ both (op d.file.present)
    → IsReplaced w (op (file_of (files_in present_of rs) w)) rs (set rs k r')
replaced_as op w k rs d r' s a e l h same c b =
    replaced_at w k rs d r' (op (file_of (files_in present_of rs) w)) s a e l h same c
    (b ∙ ap (λ g. both (op g)) (sym (present_at w k rs d s a e)))

pub replaced_absent : (op : EventFile → EventFile) (w : ℕ) (rs : List FileAt) → Rises 0 rs
    → has_window w rs ≡ false → files_in present_of rs ≡ files_in kept_of rs
    → op unopened ≡ unopened → IsReplaced w (op (file_of (files_in present_of rs) w)) rs rs
replaced_absent op w rs s a h u =
    replaced_none w rs (op (file_of (files_in present_of rs) w)) s a h (ap op (file_absent present_of w rs a) ∙ u)

pub open_absent : (w : ℕ) (rs : List FileAt) → has_window w rs ≡ false →
    has_opening (file_of (files_in present_of rs) w) ≡ true → ⊥
open_absent w rs a h =
    true_false (has_opening (file_of (files_in present_of rs) w)) h (ap has_opening (file_absent present_of w rs a))

pub living_absent : (w o : ℕ) (rs : List FileAt) → has_window w rs ≡ false →
    is_enlisted (file_of (files_in present_of rs) w) o ≡ true → ⊥
living_absent w o rs a h =
    true_false (is_enlisted (file_of (files_in present_of rs) w) o) h
    (ap (λ f. is_enlisted f o) (file_absent present_of w rs a))

-- the kept state of a file stays at a growing call, whatever the answer
pub kept_either : {A E : Type 0} (result : Result A E) (t t' : Twice EventFile) (after : EventFile)
    → OnOk result (t' ≡ record t { present = after }) → OnErr result (t' ≡ both t.kept) → t'.kept ≡ t.kept
kept_either (Ok x) t t' after ok err = ap (λ (u : Twice EventFile). u.kept) ok
kept_either (Err x) t t' after ok err = ap (λ (u : Twice EventFile). u.kept) err

abbrev pub at_of : ℕ → Bool → Twice EventFile → FileAt
at_of window changed file = record { window = window; changed = changed; file = file }

pub kept_one : (w k : ℕ) (rs : List FileAt) (d r' : FileAt) → Rises 0 rs → is_at w k rs ≡ true → d ≡ get_or rs k d
    → r'.window ≡ d.window → r'.changed ≡ false → r'.file ≡ both d.file.present
    → set rs k r' ≡ changed_in w with_present rs
kept_one w k rs d r' s a e same c b =
    changed_at 0 w k with_present rs d r' s a
    (ap (λ n. at_of n r'.changed r'.file) same ∙ ap (λ x. at_of d.window x r'.file) c
    ∙ ap (λ t. at_of d.window false t) b ∙ ap with_present e)

pub back_one : (w k : ℕ) (rs : List FileAt) (d r' : FileAt) → Rises 0 rs → is_at w k rs ≡ true → d ≡ get_or rs k d
    → r'.window ≡ d.window → r'.changed ≡ false → r'.file ≡ both d.file.kept → set rs k r' ≡ changed_in w with_kept rs
back_one w k rs d r' s a e same c b =
    changed_at 0 w k with_kept rs d r' s a
    (ap (λ n. at_of n r'.changed r'.file) same ∙ ap (λ x. at_of d.window x r'.file) c
    ∙ ap (λ t. at_of d.window false t) b ∙ ap with_kept e)
