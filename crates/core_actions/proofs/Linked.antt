-- Undo and Redo, window by window.
use Rattle.std.proofs.Common.{◌≡◌, ℕ, ◌+◌, ◌-◌, true, false, cond, List, [], ◌∷◌, ◌++◌, length, Option, Some, None}
use Rattle.std.proofs.Common.{refl, sym, ap, ◌∙◌, arith, append_assoc}
use Rattle.std.specs.Prelude.{map}
use Rattle.std.specs.Option.{option_map}
use Rattle.std.proofs.lemmas.List.{length-append}
use Rattle.core_windows.specs.Places.{at_place}
use Rattle.core_windows.specs.Windows.{Window, window_at, changed}
use Rattle.core_scene.specs.declared.deed.Deed.TheVariants as deed
use Rattle.core_scene.specs.declared.deed.Entry.{Entry}
use Rattle.core_scene.specs.Scenes.{SceneState, done, done_all}
use Rattle.core_actions.specs.declared.undoing.Move.{Move}
use Rattle.core_actions.specs.declared.undoing.Move.TheVariants as move
use Rattle.core_actions.specs.Undoing.{next_group, moves, is_number, moves_from, linked_deeds}
use Rattle.core_actions.specs.UndoLaws.{moved_window, moved_if, MovesAreLinked}

-- the window at a place, behind those in front of it
at_here : (f : Window → Window) (front : List (Option Window)) (o : Option Window) (rest : List (Option Window))
    → at_place (option_map f) (length front) (front ++ o ∷ rest) ≡ front ++ option_map f o ∷ rest
at_here f [] o rest = refl
at_here f (x ∷ front) o rest = ap (λ (l : List (Option Window)). x ∷ l) (at_here f front o rest)

moved_list : (m : Move) (at w : ℕ) (ws : List (Option Window)) → changed at ws
    (moves m w) ≡ at_place (option_map (moved_window m)) (w - 1) ws
moved_list move.Undo at w ws = refl
moved_list move.Redo at w ws = refl

one_more : (front : List (Option Window)) (o : Option Window) (w : ℕ)
    → length front + 1 ≡ w → length (front ++ o ∷ []) + 1 ≡ w + 1
one_more front o w h = omega (arith, length-append front (o ∷ []))

moved_here : (e : Entry) (m : Move) (w : ℕ) (front : List (Option Window)) (o : Option Window)
    (rest : List (Option Window)) (s : SceneState)
    → s.windows ≡ front ++ o ∷ rest → length front + 1 ≡ w
    → (done e s (deed.Windows (moves m w))).windows ≡ (front ++ option_map (moved_window m) o ∷ []) ++ rest
moved_here e m w front o rest s h l =
    let k : w - 1 ≡ length front = omega arith in
    moved_list m e.at w s.windows
    ∙ ap (λ (j : ℕ). at_place (option_map (moved_window m)) j s.windows) k
    ∙ ap (at_place (option_map (moved_window m)) (length front)) h
    ∙ at_here (moved_window m) front o rest
    ∙ sym (append_assoc front (option_map (moved_window m) o ∷ []) rest)

linked_from : (e : Entry) (m : Move) (n w : ℕ) (rest front : List (Option Window)) (s : SceneState)
    → s.windows ≡ front ++ rest → length front + 1 ≡ w
    → (done_all e s (moves_from m n w rest)).windows ≡ front ++ map (moved_if m (Some n)) rest
linked_from e m n w [] front s h l = h
linked_from e m n w (o ∷ rest) front s h l =
    let f = moved_if m (Some n) in
    let o' = option_map (moved_window m) o in
    elim (is_number n (next_group m o)) as (λ b. (done_all e s (cond b (deed.Windows (moves m w) ∷ []) []
    ++ moves_from m n (w + 1) rest)).windows ≡ front ++ cond b o' o ∷ map f rest) [
      | true ↦
          linked_from e m n (w + 1) rest (front ++ o' ∷ []) (done e s (deed.Windows (moves m w)))
          (moved_here e m w front o rest s h l) (one_more front o' w l)
          ∙ append_assoc front (o' ∷ []) (map f rest)
      | false ↦
          linked_from e m n (w + 1) rest (front ++ o ∷ []) s (h ∙ sym (append_assoc front (o ∷ []) rest))
          (one_more front o w l)
          ∙ append_assoc front (o ∷ []) (map f rest)
    ]

all_same : (m : Move) (ws : List (Option Window)) → ws ≡ map (moved_if m None) ws
all_same m [] = refl
all_same m (o ∷ ws) = ap (λ (l : List (Option Window)). o ∷ l) (all_same m ws)

linked_by : (e : Entry) (m : Move) (s : SceneState) (g : Option ℕ)
    → (done_all e s (linked_deeds m g s)).windows ≡ map (moved_if m g) s.windows
linked_by e m s None = all_same m s.windows
linked_by e m s (Some n) = linked_from e m n 1 s.windows [] s refl refl

pub are_linked : MovesAreLinked
are_linked e m w s = linked_by e m s (next_group m (window_at s.windows w))
