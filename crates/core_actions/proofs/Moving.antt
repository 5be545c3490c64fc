-- Undo and Redo in several windows, one after another.
use Rattle.std.proofs.Common.{◌≡◌, ℕ, zero, suc, ◌+◌, ◌-◌, Bool, true, false, cond, eqb, List, [], ◌∷◌, ◌++◌, Option}
use Rattle.std.proofs.Common.{Some, None, refl, sym, ap, subst, ◌∙◌, arith, append_assoc}
use Rattle.std.specs.Prelude.{IsSome}
use Rattle.std.specs.Option.{option_map}
use Rattle.std.proofs.lemmas.Bool.Decides.{nat_tests}
use Rattle.std.proofs.lemmas.List.{append-nil, length-map}
use Rattle.core_windows.specs.Places.{at_place, live_at}
use Rattle.core_windows.specs.Windows.{Window, window_at, undone_window, redone_window}
use Rattle.core_scene.specs.declared.deed.Deed.{Deed}
use Rattle.core_scene.specs.declared.deed.Deed.TheVariants as deed
use Rattle.core_scene.specs.declared.deed.Entry.{Entry}
use Rattle.core_scene.specs.Scenes.{SceneState, done, CanDo, CanDoAll}
use Rattle.core_scene.proofs.Dids.{did_then}
use Rattle.core_actions.specs.declared.undoing.Move.{Move}
use Rattle.core_actions.specs.declared.undoing.Move.TheVariants as move
use Rattle.core_actions.specs.Undoing.{next_group, moves, is_number, moves_from}

-- ---- a change of one window leaves the others

lives_on : (f : Window → Window) (j : ℕ) (ws : List (Option Window)) (k : ℕ) → IsSome (live_at ws k)
    → IsSome (live_at (at_place (option_map f) j ws) k)
lives_on f j [] k h = h
lives_on f zero (None ∷ ws) k h = h
lives_on f zero (Some w ∷ ws) zero h = refl
lives_on f zero (Some w ∷ ws) (suc k) h = h
lives_on f (suc j) (w ∷ ws) zero h = h
lives_on f (suc j) (w ∷ ws) (suc k) h = lives_on f j ws k h

or_none : (b : Bool) (o p : Option Window) → (IsSome o → IsSome p) → IsSome (cond b None o) → IsSome (cond b None p)
or_none true o p f h = h
or_none false o p f h = f h

window_lives : (f : Window → Window) (j v : ℕ) (ws : List (Option Window)) → IsSome (window_at ws v)
    → IsSome (window_at (at_place (option_map f) j ws) v)
window_lives f j v ws h = or_none (eqb v 0) (live_at ws (v - 1)) (live_at (at_place (option_map f) j ws) (v - 1))
    (lives_on f j ws (v - 1)) h

lives_moved : (m : Move) (e : Entry) (w v : ℕ) (s : SceneState) → IsSome (window_at s.windows v)
    → IsSome (window_at (done e s (deed.Windows (moves m w))).windows v)
lives_moved move.Undo e w v s h = window_lives undone_window (w - 1) v s.windows h
lives_moved move.Redo e w v s h = window_lives redone_window (w - 1) v s.windows h

can_move : (m : Move) (w : ℕ) (s : SceneState) → IsSome (window_at s.windows w) → CanDo s (deed.Windows (moves m w))
can_move move.Undo w s h = h
can_move move.Redo w s h = h

-- ---- each window of the list lives when its turn comes

-- what lives in the list, the first having number w, lives among the windows
abbrev AreThere : ℕ → List (Option Window) → List (Option Window) → Type 0
AreThere w rest ws = (k : ℕ) → IsSome (live_at rest k) → IsSome (window_at ws (w + k))

others : (w : ℕ) (o : Option Window) (rest ws : List (Option Window)) → AreThere w (o ∷ rest) ws
    → AreThere (w + 1) rest ws
others w o rest ws h k l = let e : w + suc k ≡ w + 1 + k = omega arith in
    subst (λ (n : ℕ). IsSome (window_at ws n)) e (h (suc k) l)

first : (w : ℕ) (x : Window) (rest ws : List (Option Window)) → AreThere w (Some x ∷ rest) ws → IsSome (window_at ws w)
first w x rest ws h = let e : w + 0 ≡ w = omega arith in subst (λ (n : ℕ). IsSome (window_at ws n)) e (h zero refl)

moves_can : (e : Entry) (m : Move) (n w : ℕ) (rest : List (Option Window)) (s : SceneState) → AreThere w rest s.windows
    → CanDoAll e s (moves_from m n w rest)
moves_can e m n w [] s h = tt
moves_can e m n w (None ∷ rest) s h = moves_can e m n (w + 1) rest s (others w None rest s.windows h)
moves_can e m n w (Some x ∷ rest) s h =
    let t : IsSome (window_at s.windows w) = first w x rest s.windows h in
    let l : AreThere (w + 1) rest s.windows = others w (Some x) rest s.windows h in
    elim (is_number n (next_group m (Some x))) as (λ b. CanDoAll e s
    (cond b (deed.Windows (moves m w) ∷ []) [] ++ moves_from m n (w + 1) rest)) [
      | true ↦ (
        can_move m w s t,
        moves_can e m n (w + 1) rest (done e s (deed.Windows (moves m w)))
            (λ k g. lives_moved m e w (w + 1 + k) s (l k g)),
      )
      | false ↦ moves_can e m n (w + 1) rest s l
    ]

there : (ws : List (Option Window)) → AreThere 1 ws ws
there ws k h =
    let e : eqb (1 + k) 0 ≡ false = grind (arith, nat_tests) in
    let q : k ≡ 1 + k - 1 = omega arith in
    subst (λ (b : Bool). IsSome (cond b None (live_at ws (1 + k - 1)))) (sym e)
    (subst (λ (i : ℕ). IsSome (live_at ws i)) q h)

pub all_can_move : (e : Entry) (m : Move) (n : ℕ) (s : SceneState) (ds : List Deed) → ds ≡ moves_from m n 1 s.windows
    → CanDoAll e s ds
all_can_move e m n s ds h = subst (CanDoAll e s) (sym h) (moves_can e m n 1 s.windows s (there s.windows))

pub ruleset moving = (append_assoc, append-nil, length-map)

pub ruleset possible = (did_then)
