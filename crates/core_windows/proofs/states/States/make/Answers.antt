use Rattle.std.proofs.Common.{◌≡◌, ◌++◌, ◌∷◌, [], List, sym, subst, ap, ◌∙◌}
use Rattle.std.specs.Prelude.{Option, Some}
use Rattle.core_windows.specs.Windows.{Window, named_window}
use Rattle.core_windows.specs.Panes.{window_of}
use Rattle.core_windows.specs.Shapes.{shapes_of, seen_in}
use Rattle.core_windows.specs.Trail.{CanGoBack}
use Rattle.core_windows.specs.declared.pane.Pane.{Pane}
use Rattle.core_windows.specs.declared.undo.Undo.{Undo}
use Rattle.core_windows.proofs.Rooms as rooms
use Rattle.core_windows.proofs.states.States.make.Goals as goal

pub invariant_of-self-2 : goal.invariant_of-self-2
invariant_of-self-2 c =
    let steps : c.push_reserved.new.self.items ≡ c.self.inside.trail.items ++ c.put-undo.result ∷ [] =
    c.push_reserved.ensures.items ∙ ap (λ (us : List Undo). us ++ c.put-undo.result ∷ []) c.reserve.ensures.items in
    subst (λ us. CanGoBack us (shapes_of c.put-undo.new.panes.items)) (sym steps)
    (rooms.grown_can c.self.inside.trail.items c.put-undo.result (shapes_of c.self.inside.panes.items)
    (shapes_of c.put-undo.new.panes.items) (c.put-undo.ensures.back ∙ ap shapes_of c.reserve-2.ensures.items)
    c.put-undo.ensures.can c.self.invariant)

pub returns-clause-ok : goal.returns-clause-ok
returns-clause-ok c =
    let steps : c.push_reserved.new.self.items ≡ c.self.inside.trail.items ++ c.put-undo.result ∷ [] =
    c.push_reserved.ensures.items ∙ ap (λ (us : List Undo). us ++ c.put-undo.result ∷ []) c.reserve.ensures.items in
    rw (← c.self.view_is)
    (ap (λ (us : List Undo). rooms.seen us (shapes_of c.put-undo.new.panes.items)) steps
    ∙ rooms.seen_grown c.self.inside.trail.items c.put-undo.result (shapes_of c.self.inside.panes.items)
    (shapes_of c.put-undo.new.panes.items) (λ (ws : List (Option Window)).
    ws ++ Some (named_window c.args.name) ∷ []) (c.put-undo.ensures.back ∙ ap shapes_of c.reserve-2.ensures.items)
    (c.put-undo.ensures.windows ∙ ap (λ (ps : List (Option Pane)). seen_in (shapes_of ps)
    ++ Some (window_of c.in_ok-pane.pane) ∷ []) c.reserve-2.ensures.items
    ∙ ap (λ (w : Window). seen_in (shapes_of c.self.inside.panes.items) ++ Some w ∷ []) c.in_ok-pane.ensures))
