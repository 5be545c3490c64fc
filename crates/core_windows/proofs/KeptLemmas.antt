-- Looks at the kept state.
use Rattle.std.proofs.Common.{◌≡◌, ℕ, zero, suc, ◌+◌, ◌-◌, ◌≤◌, ◌<◌, Bool, true, false, eqb, List, [], ◌∷◌, length}
use Rattle.std.proofs.Common.{take, Option, Some, None, refl, sym, ap, subst, ◌∙◌, arith}
use Rattle.std.specs.Prelude.{if◌then◌else◌}
use Rattle.std.specs.Option.{option_map}
use Rattle.std.proofs.lemmas.List.{length-take-le}
use Rattle.std.proofs.lemmas.Bool.Decides.{nat_tests}
use Rattle.am_text.specs.declared.range.Range.{Range}
use Rattle.core_windows.specs.Places.{at_place, live_at}
use Rattle.core_windows.specs.Shapes.{Lives}
use Rattle.core_windows.specs.Shapes.{PaneShape, shape_of_pane, taken_back, CanTakeBack}
use Rattle.core_windows.specs.Trail.{revived, undone, CanUndo, all_undone, CanGoBack, addr_of, kept_addr, addr_in}
use Rattle.core_windows.specs.Trail.{unmade_by, all_unmade}
use Rattle.core_windows.specs.declared.undo.Undo.{Undo}
use Rattle.core_windows.specs.declared.undo.Undo.TheVariants.{Unmake, Revive, Restore}

module _ {A : Type 0} where
  place_length : (f : A → A) (k : ℕ) (xs : List A) → length (at_place f k xs) ≡ length xs
  place_length f k [] = refl
  place_length f zero (x ∷ xs) = refl
  place_length f (suc k) (x ∷ xs) = ap suc (place_length f k xs)

  place_here : (f : Option A → Option A) (k : ℕ) (xs : List (Option A)) → k < length xs
      → live_at (at_place f k xs) k ≡ f (live_at xs k)
  place_here f k [] h = absurd (omega arith)
  place_here f zero (x ∷ xs) h = refl
  place_here f (suc k) (x ∷ xs) h = place_here f k xs (omega arith)

  place_there : (f : Option A → Option A) (k at : ℕ) (xs : List (Option A))
      → eqb k at ≡ false → live_at (at_place f k xs) at ≡ live_at xs at
  place_there f k at [] h = refl
  place_there f zero zero (x ∷ xs) h = absurd (grind (arith, nat_tests))
  place_there f zero (suc at) (x ∷ xs) h = refl
  place_there f (suc k) zero (x ∷ xs) h = refl
  place_there f (suc k) (suc at) (x ∷ xs) h = place_there f k at xs (grind (arith, nat_tests))

  pub none_past : (k : ℕ) (xs : List (Option A)) → length xs ≤ k → live_at xs k ≡ None
  none_past k [] h = refl
  none_past zero (x ∷ xs) h = absurd (omega arith)
  none_past (suc k) (x ∷ xs) h = none_past k xs (omega arith)

  take_there : (n at : ℕ) (xs : List (Option A)) → at < n → live_at (take n xs) at ≡ live_at xs at
  take_there zero at xs h = absurd (omega arith)
  take_there (suc n) at [] h = refl
  take_there (suc n) zero (x ∷ xs) h = refl
  take_there (suc n) (suc at) (x ∷ xs) h = take_there n at xs (omega arith)

undone_length : (u : Undo) (ss : List (Option PaneShape)) → CanUndo u ss
    → length (undone u ss) + unmade_by u ≡ length ss
undone_length Unmake ss h = omega (arith, h, length-take-le (length ss - 1) ss (omega arith))
undone_length (Revive k pane) ss h = omega (arith, place_length (revived pane) k ss)
undone_length (Restore k back) ss h = omega (arith, place_length (option_map (taken_back back)) k ss)

pub kept_length : (us : List Undo) (ss : List (Option PaneShape)) → CanGoBack us ss
    → length (all_undone us ss) + all_unmade us ≡ length ss
kept_length [] ss h = omega arith
kept_length (u ∷ us) ss h = omega (arith, undone_length u (all_undone us ss) h.1, kept_length us ss h.0)

same_of : (a b : ℕ) → eqb a b ≡ true → a ≡ b
same_of a b h = grind (arith, nat_tests)

found_lives : (back : _) (o : Option PaneShape) → Lives (CanTakeBack back) o
    → option_map addr_of (option_map (taken_back back) o) ≡ Some back.trace.marks.addr
found_lives back None h = absurd h
found_lives back (Some s) h = refl

body_by : (b : Bool) (k at : ℕ) (back : _) (r : Range) (ss : List (Option PaneShape))
    → eqb k at ≡ b → CanUndo (Restore k back) ss → at < length ss →
    (if b then Some back.trace.marks.addr else None) ≡ Some r → option_map addr_of
    (live_at (undone (Restore k back) ss) at) ≡ Some r
body_by true k at back r ss e c l h =
    let same : k ≡ at = same_of k at e in
    let c' : Lives (CanTakeBack back) (live_at ss at) = subst (λ n. Lives (CanTakeBack back) (live_at ss n)) same c in
    subst (λ n. option_map addr_of (live_at (at_place (option_map (taken_back back)) n ss) at) ≡ Some r) (sym same)
    (ap (option_map addr_of) (place_here (option_map (taken_back back)) at ss l) ∙ found_lives back (live_at ss at) c'
    ∙ h)
body_by false k at back r ss e c l h = absurd (cc)

revive_by : (b : Bool) (k at : ℕ) (pane : _) (r : Range) (ss : List (Option PaneShape)) → eqb k at ≡ b → at < length ss
    → (if b then Some (addr_of (shape_of_pane pane)) else None) ≡ Some r
    → option_map addr_of (live_at (undone (Revive k pane) ss) at) ≡ Some r
revive_by true k at pane r ss e l h =
    subst (λ n. option_map addr_of (live_at (at_place (revived pane) n ss) at) ≡ Some r) (sym (same_of k at e))
    (ap (option_map addr_of) (place_here (revived pane) at ss l) ∙ h)
revive_by false k at pane r ss e l h = absurd (cc)

pub addr_found : (u : Undo) (us : List Undo) (ss : List (Option PaneShape)) (at : ℕ) (r : Range) → CanGoBack (u ∷ us) ss
    → at < length (all_undone (u ∷ us) ss) → addr_in u at ≡ Some r → kept_addr (u ∷ us) ss at ≡ Some r
addr_found Unmake us ss at r c l h = absurd (cc)
addr_found (Revive k pane) us ss at r c l h = revive_by (eqb k at) k at pane r (all_undone us ss) refl
    (omega (arith, undone_length (Revive k pane) (all_undone us ss) c.1, l)) h
addr_found (Restore k back) us ss at r c l h = body_by (eqb k at) k at back r (all_undone us ss) refl c.1
    (omega (arith, undone_length (Restore k back) (all_undone us ss) c.1, l)) h

other_by : {X : Type 0} (b : Bool) (x : X) → (if b then Some x else None) ≡ None → b ≡ false
other_by true x h = absurd (cc)
other_by false x h = refl

pub addr_past : (u : Undo) (us : List Undo) (ss : List (Option PaneShape)) (at : ℕ) → CanGoBack (u ∷ us) ss
    → at < length (all_undone (u ∷ us) ss) → addr_in u at ≡ None → (kept_addr us ss at ≡ kept_addr (u ∷ us) ss at)
    × (at < length (all_undone us ss))
addr_past Unmake us ss at c l h =
    let n = undone_length Unmake (all_undone us ss) c.1 in (
      sym (ap (option_map addr_of) (take_there (length (all_undone us ss) - 1) at (all_undone us ss)
          (omega (arith, n, l)))),
      omega (arith, n, l),
    )
addr_past (Revive k pane) us ss at c l h = (
  sym (ap (option_map addr_of) (place_there (revived pane) k at (all_undone us ss)
      (other_by (eqb k at) (addr_of (shape_of_pane pane)) h))),
  omega (
    arith,
    undone_length (Revive k pane) (all_undone us ss) c.1,
    l,
  ),
)
addr_past (Restore k back) us ss at c l h = (
  sym (ap (option_map addr_of) (place_there (option_map (taken_back back)) k at (all_undone us ss)
      (other_by (eqb k at) back.trace.marks.addr h))),
  omega (
    arith,
    undone_length (Restore k back) (all_undone us ss) c.1,
    l,
  ),
)
