-- What a change asks, by the place of its window.
use Rattle.std.proofs.Common.{◌≡◌, ℕ, ◌-◌, ◌<◌, Bool, true, false, cond, eqb, List, Option, Some, None, refl, sym}
use Rattle.std.proofs.Common.{subst, arith}
use Rattle.std.specs.Prelude.{IsSome, slice_get}
use Rattle.std.proofs.lemmas.Bool.Decides.{nat_tests}
use Rattle.edit_log.specs.declared.types.Edit.{Edit}
use Rattle.core_windows.specs.Places.{live_at}
use Rattle.core_windows.specs.Possible.{CanEdit, CanSetIn}
use Rattle.core_windows.specs.Windows.{Window, window_at}
use Rattle.core_windows.specs.Shapes.{Lives, Always, IsEditable, IsSettable}
use Rattle.core_windows.specs.declared.change.Setting.{Setting}

positive : (b : Bool) (w : ℕ) (o : Option Window) → eqb w 0 ≡ b → IsSome (cond b None o) → 0 < w
positive true w o e h = absurd cc
positive false w o e h = grind (arith, nat_tests)

-- its number is above 0
pub has_place : (ws : List (Option Window)) (w : ℕ) → IsSome (window_at ws w) → 0 < w
has_place ws w h = positive (eqb w 0) w (live_at ws (w - 1)) refl h

there : (b : Bool) (o : Option Window) → IsSome (cond b None o) → cond b None o ≡ o
there true o h = absurd cc
there false o h = refl

pub at_its_place : (ws : List (Option Window)) (w : ℕ) → IsSome (window_at ws w) → window_at ws w ≡ live_at ws (w - 1)
at_its_place ws w h = there (eqb w 0) (live_at ws (w - 1)) h

always : (o : Option Window) → IsSome o → Lives (Always {A = Window}) o
always None h = absurd cc
always (Some x) h = tt

pub always_there : (ws : List (Option Window)) (w : ℕ) → IsSome (window_at ws w)
    → Lives (Always {A = Window}) (live_at ws (w - 1))
always_there ws w h = always (live_at ws (w - 1)) (subst IsSome (at_its_place ws w h) h)

editable : (es : List Edit) (o : Option Window) → CanEdit o es → Lives (IsEditable es) o
editable es None h = let l = h.lives in absurd cc
editable es (Some x) h = record { edits = h.range; dot = tt }

pub editable_there : (es : List Edit) (ws : List (Option Window)) (w : ℕ) → CanEdit (window_at ws w) es
    → Lives (IsEditable es) (live_at ws (w - 1))
editable_there es ws w h = editable es (live_at ws (w - 1)) (subst (λ o. CanEdit o es) (at_its_place ws w h.lives) h)

settable : (x : Setting) (o : Option Window) → CanSetIn o x → Lives (IsSettable x) o
settable x None h = let l = h.lives in absurd cc
settable x (Some w) h = h.inside

pub settable_there : (x : Setting) (ws : List (Option Window)) (w : ℕ) → CanSetIn (window_at ws w) x
    → Lives (IsSettable x) (live_at ws (w - 1))
settable_there x ws w h = settable x (live_at ws (w - 1)) (subst (λ o. CanSetIn o x) (at_its_place ws w h.lives) h)
