-- A window at its place in the list.
use Rattle.std.proofs.Common.{◌≡◌, ℕ, ◌+◌, ◌-◌, ◌<◌, Bool, true, false, cond, eqb, List, [], ◌∷◌, length, get_or}
use Rattle.std.proofs.Common.{Option, Some, None, refl, sym, ap, ◌∙◌, subst, arith}
use Rattle.std.specs.Prelude.{slice_get, slice_index_or, IsSome, IfSome}
use Rattle.std.specs.Option.{option_map}
use Rattle.std.proofs.lemmas.Option.{slice_get-get_or, slice_get-map}
use Rattle.std.proofs.lemmas.Bool.Decides.{nat_tests}
use Rattle.core_windows.specs.declared.pane.Pane.{Pane}
use Rattle.core_windows.specs.Places.{when_made}
use Rattle.core_windows.specs.Windows.{Window, window_at}
use Rattle.core_windows.specs.Panes.{window_if_live, windows_of, pane_at, IsPlaceOf}
use Rattle.core_windows.specs.Shapes.{shapes_of, seen_in}

-- ---- by number

made_of : (o : Option (Option Pane)) → when_made (option_map window_if_live o) ≡ window_if_live (when_made o)
made_of None = refl
made_of (Some p) = refl

at_number : (b : Bool) (x : Option Pane) → cond b None (window_if_live x) ≡ window_if_live (cond b None x)
at_number true x = refl
at_number false x = refl

pub window_of_pane : (ps : List (Option Pane)) (w : ℕ) → window_at (windows_of ps) w ≡ window_if_live (pane_at ps w)
window_of_pane ps w =
    ap (λ (o : Option (Option Window)). cond (eqb w 0) None (when_made o)) (slice_get-map window_if_live ps (w - 1))
    ∙ ap (λ (o : Option Window). cond (eqb w 0) None o) (made_of (slice_get ps (w - 1)))
    ∙ at_number (eqb w 0) (when_made (slice_get ps (w - 1)))

-- ---- by place

not_zero : (w k : ℕ) → w ≡ k + 1 → eqb w 0 ≡ false
not_zero w k e = grind (arith, nat_tests)

before_it : (w k : ℕ) → w ≡ k + 1 → w - 1 ≡ k
before_it w k e = omega arith

pane_there : (ps : List (Option Pane)) (w k : ℕ) (d : Option Pane) → w ≡ k + 1 → k < length ps
    → pane_at ps w ≡ get_or ps k d
pane_there ps w k d e h =
    ap (λ (b : Bool). cond b None (when_made (slice_get ps (w - 1)))) (not_zero w k e)
    ∙ ap (λ (i : ℕ). when_made (slice_get ps i)) (before_it w k e)
    ∙ ap when_made (slice_get-get_or ps k d h)

pub pane_of_place : (ps : List (Option Pane)) (w k : ℕ) (d : Option Pane) → IsPlaceOf ps w k
    → pane_at ps w ≡ get_or ps k d
pane_of_place ps w k d h = pane_there ps w k d h.number h.within

lives_same : (o : Option Pane) → IsSome o → IsSome (window_if_live o)
lives_same None h = absurd cc
lives_same (Some p) h = refl

-- ---- a window of a name

pub lives_at : (ps : List (Option Pane)) (o : Option ℕ) → IfSome o
    (λ k. (k < length ps) × ((d : Option Pane) → IsSome (slice_index_or ps k d)))
    → IfSome (option_map (λ (k : ℕ). k + 1) o) (λ w. IsSome (window_at (windows_of ps) w))
lives_at ps None h = tt
lives_at ps (Some k) h =
    let there : window_at (windows_of ps) (k + 1) ≡ window_if_live (get_or ps k None) = window_of_pane ps (k + 1)
    ∙ ap window_if_live (pane_there ps (k + 1) k None refl h.0) in
    subst IsSome (sym there) (lives_same (get_or ps k None) (h.1 None))

-- ---- the panes are what is seen

pub panes_seen : (ps : List (Option Pane)) → windows_of ps ≡ seen_in (shapes_of ps)
panes_seen [] = refl
panes_seen (None ∷ ps) = ap (λ (ws : List (Option Window)). None ∷ ws) (panes_seen ps)
panes_seen (Some p ∷ ps) = ap (λ (ws : List (Option Window)). window_if_live (Some p) ∷ ws) (panes_seen ps)
