-- The numbers of the live windows after a change.
use Rattle.std.proofs.Common.{◌≡◌, ℕ, zero, suc, ◌+◌, ◌-◌, ◌<◌, Bool, true, false, not, cond, eqb, leb, ◌||◌, ◌^◌, List}
use Rattle.std.proofs.Common.{[], ◌∷◌, ◌++◌, length, Option, Some, None, refl, sym, ap, subst, ◌∙◌, arith}
use Rattle.std.specs.Prelude.{IsSome}
use Rattle.std.specs.Option.{option_map}
use Rattle.std.proofs.lemmas.List.{length-append}
use Rattle.std.proofs.lemmas.Bool.Decides.{nat_tests}
use Rattle.am_text.specs.Twice.{Twice}
use Rattle.acme_tree.specs.declared.node.World.{World}
use Rattle.acme_tree.specs.Trees.{world_is_full}
use Rattle.core_windows.specs.declared.change.Change.{Change}
use Rattle.core_windows.specs.declared.change.Change.TheVariants as change
use Rattle.core_windows.specs.declared.numbers.Numbers.{Numbers}
use Rattle.core_windows.specs.Places.{at_place, live_at, gone}
use Rattle.core_windows.specs.Possible.{CanChange}
use Rattle.core_windows.specs.Windows.{Window, window_at, named_window, edited, added, set, undone_window}
use Rattle.core_windows.specs.Windows.{redone_window, changed, numbers, world_with}
use Rattle.core_windows.specs.Numbering.{others, with_next, without, numbers_after, numbers_of, renumbered, MayMake}
use Rattle.core_windows.specs.Numbering.{IsWorldOf}
use Rattle.core_windows.proofs.Conditions.{has_place, at_its_place}

-- ---- one window more

numbers_more : (n : ℕ) (ws : List (Option Window)) (x : Window) → numbers n (ws ++ Some x ∷ []) ≡ numbers n ws
    ++ (n + length ws) ∷ []
numbers_more n [] x = ap (λ (i : ℕ). i ∷ []) (omega arith)
numbers_more n (None ∷ ws) x = numbers_more (n + 1) ws x ∙ ap (λ (i : ℕ). numbers (n + 1) ws ++ i ∷ []) (omega arith)
numbers_more n (Some y ∷ ws) x =
    ap (λ (l : List ℕ). n ∷ l) (numbers_more (n + 1) ws x ∙ ap (λ (i : ℕ). numbers (n + 1) ws ++ i ∷ []) (omega arith))

abbrev made_of : Bool → List ℕ → ℕ → World
made_of b ids next = record { windows = ids; next = next; watched = b }

world_more : (b : Bool) (ws : List (Option Window)) (x : Window) → renumbered (world_with b ws)
    (Some (with_next (world_with b ws))) ≡ world_with b (ws ++ Some x ∷ [])
world_more b ws x =
    let more : numbers 1 (ws ++ Some x ∷ []) ≡ numbers 1 ws ++ (length ws + 1) ∷ [] = numbers_more 1 ws x
    ∙ ap (λ (i : ℕ). numbers 1 ws ++ i ∷ []) (omega arith) in
    sym (ap (λ (l : List ℕ). made_of b l (length (ws ++ Some x ∷ []) + 1)) more
    ∙ ap (λ (i : ℕ). made_of b (numbers 1 ws ++ (length ws + 1) ∷ []) (i + 1)) (length-append ws (Some x ∷ [])))

-- ---- another window in the place of one

numbers_same : (f : Window → Window) (k n : ℕ) (ws : List (Option Window))
    → numbers n (at_place (option_map f) k ws) ≡ numbers n ws
numbers_same f k n [] = refl
numbers_same f zero n (None ∷ ws) = refl
numbers_same f zero n (Some x ∷ ws) = refl
numbers_same f (suc k) n (None ∷ ws) = numbers_same f k (n + 1) ws
numbers_same f (suc k) n (Some x ∷ ws) = ap (λ (l : List ℕ). n ∷ l) (numbers_same f k (n + 1) ws)

place_length : {A : Type 0} (f : A → A) (k : ℕ) (xs : List A) → length (at_place f k xs) ≡ length xs
place_length f k [] = refl
place_length f zero (x ∷ xs) = refl
place_length f (suc k) (x ∷ xs) = ap suc (place_length f k xs)

world_same : (b : Bool) (f : Window → Window) (k : ℕ) (ws : List (Option Window))
    → world_with b ws ≡ world_with b (at_place (option_map f) k ws)
world_same b f k ws =
    sym (ap (λ (l : List ℕ). made_of b l (length (at_place (option_map f) k ws) + 1)) (numbers_same f k 1 ws)
    ∙ ap (λ (i : ℕ). made_of b (numbers 1 ws) (i + 1)) (place_length (option_map f) k ws))

-- ---- one window less

other : (n w : ℕ) (ids : List ℕ) → w < n → others w (n ∷ ids) ≡ n ∷ others w ids
other n w ids h = let e : eqb n w ≡ false = grind (arith, nat_tests) in
    ap (λ (b : Bool). cond (not b) (n ∷ others w ids) (others w ids)) e

other_below : (n w : ℕ) (ids : List ℕ) → n < w → others w (n ∷ ids) ≡ n ∷ others w ids
other_below n w ids h = let e : eqb n w ≡ false = grind (arith, nat_tests) in
    ap (λ (b : Bool). cond (not b) (n ∷ others w ids) (others w ids)) e

the_one : (n w : ℕ) (ids : List ℕ) → n ≡ w → others w (n ∷ ids) ≡ others w ids
the_one n w ids h = let e : eqb n w ≡ true = grind (arith, nat_tests) in
    ap (λ (b : Bool). cond (not b) (n ∷ others w ids) (others w ids)) e

others_above : (ws : List (Option Window)) (n w : ℕ) → w < n → others w (numbers n ws) ≡ numbers n ws
others_above [] n w h = refl
others_above (None ∷ ws) n w h = others_above ws (n + 1) w (omega arith)
others_above (Some v ∷ ws) n w h = other n w (numbers (n + 1) ws) h
    ∙ ap (λ (l : List ℕ). n ∷ l) (others_above ws (n + 1) w (omega arith))

numbers_less : (ws : List (Option Window)) (k n : ℕ) → numbers n (at_place gone k ws) ≡ others (n + k) (numbers n ws)
numbers_less [] k n = refl
numbers_less (None ∷ ws) zero n = sym (others_above ws (n + 1) (n + 0) (omega arith))
numbers_less (Some v ∷ ws) zero n =
    sym (the_one n (n + 0) (numbers (n + 1) ws) (omega arith) ∙ others_above ws (n + 1) (n + 0) (omega arith))
numbers_less (None ∷ ws) (suc k) n =
    numbers_less ws k (n + 1) ∙ ap (λ (i : ℕ). others i (numbers (n + 1) ws)) (omega arith)
numbers_less (Some v ∷ ws) (suc k) n =
    ap (λ (l : List ℕ). n ∷ l) (numbers_less ws k (n + 1) ∙ ap (λ (i : ℕ). others i (numbers (n + 1) ws)) (omega arith))
    ∙ sym (other_below n (n + suc k) (numbers (n + 1) ws) (omega arith))

world_less : (b : Bool) (ws : List (Option Window)) (w : ℕ) → 0 < w → renumbered (world_with b ws)
    (Some (without (world_with b ws) w)) ≡ world_with b (at_place gone (w - 1) ws)
world_less b ws w h =
    let n : 1 + (w - 1) ≡ w = omega arith in
    sym (ap (λ (l : List ℕ). made_of b l (length (at_place gone (w - 1) ws) + 1))
    (numbers_less ws (w - 1) 1 ∙ ap (λ (i : ℕ). others i (numbers 1 ws)) n)
    ∙ ap (λ (i : ℕ). made_of b (others w (numbers 1 ws)) (i + 1)) (place_length gone (w - 1) ws))

-- ---- any change

pub world_changed : (b : Bool) (at : ℕ) (ws : List (Option Window)) (c : Change) → CanChange ws c
    → renumbered (world_with b ws) (numbers_after (world_with b ws) c) ≡ world_with b (changed at ws c)
world_changed b at ws (change.Makes name) h = world_more b ws (named_window name)
world_changed b at ws (change.Deletes w) h = world_less b ws w (has_place ws w h)
world_changed b at ws (change.Edits w es) h = world_same b (edited es at) (w - 1) ws
world_changed b at ws (change.Adds w text) h = world_same b (added text) (w - 1) ws
world_changed b at ws (change.Sets w x) h = world_same b (set x) (w - 1) ws
world_changed b at ws (change.Undoes w) h = world_same b undone_window (w - 1) ws
world_changed b at ws (change.Redoes w) h = world_same b redone_window (w - 1) ws

pub may_make : (b : Bool) (ws : List (Option Window)) (c : Change) → CanChange ws c → MayMake (world_with b ws) c
may_make b ws (change.Makes name) h = h
may_make b ws (change.Deletes w) h = tt
may_make b ws (change.Edits w es) h = tt
may_make b ws (change.Adds w text) h = tt
may_make b ws (change.Sets w x) h = tt
may_make b ws (change.Undoes w) h = tt
may_make b ws (change.Redoes w) h = tt

either_false : (a b : Bool) → (a || b) ≡ false → b ≡ false
either_false true b e = absurd cc
either_false false b e = e

pub can_count : (world : World) → world_is_full world ≡ false → world.next < 2 ^ 32 → world.next + 1 < 2 ^ 32
can_count world e h =
    let ne : eqb world.next 4294967295 ≡ false = either_false (leb 4096 (length world.windows))
    (eqb world.next 4294967295) e in
    grind (arith, nat_tests)

-- whatever numbers come, the files of the root stay
pub stays_watched : (world : World) (n : Option Numbers) → (renumbered world n).watched ≡ world.watched
stays_watched world None = refl
stays_watched world (Some n) = refl

-- the world of the present windows after a change
pub world_renewed : (old new : World) (n : Option Numbers) (t u : Twice (List (Option Window))) (at : ℕ) (c : Change)
    → CanChange t.present c → IsWorldOf old t.present → new ≡ renumbered old n → new.watched ≡ old.watched
    → n ≡ numbers_after old c → u ≡ record t { present = changed at t.present c } → IsWorldOf new u.present
world_renewed old new n t u at c can is world watched numbers ok =
    world ∙ ap (λ (m : Option Numbers). renumbered old m) numbers
    ∙ ap (λ (w : World). renumbered w (numbers_after w c)) is ∙ world_changed old.watched at t.present c can
    ∙ ap (λ (v : Twice (List (Option Window))). world_with old.watched v.present) (sym ok)
    ∙ ap (λ (b : Bool). world_with b u.present) (sym watched)

-- the world of the kept windows after it
pub world_kept : (old new : World) (t u : Twice (List (Option Window)))
    (present : List (Option Window)) → IsWorldOf old t.kept → new ≡ old → u ≡ record t { present = present }
    → IsWorldOf new u.kept
world_kept old new t u present is same ok =
    same ∙ is ∙ ap (λ (v : Twice (List (Option Window))). world_with old.watched v.kept) (sym ok)
    ∙ ap (λ (w : World). world_with w.watched u.kept) (sym same)
