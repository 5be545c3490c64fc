use Rattle.std.proofs.Common.{◌≡◌, ◌++◌, ◌∷◌, [], List, sym, subst, ap, ◌∙◌}
use Rattle.core_windows.specs.Places.{at_place}
use Rattle.core_windows.specs.Windows.{Window}
use Rattle.core_windows.specs.Places.{gone}
use Rattle.core_windows.specs.Shapes.{shapes_of}
use Rattle.core_windows.specs.Trail.{CanGoBack}
use Rattle.core_windows.specs.declared.undo.Undo.{Undo}
use Rattle.core_windows.proofs.Rooms as rooms
use Rattle.core_windows.proofs.states.States.delete.Goals as goal

pub invariant_of-self-2 : goal.invariant_of-self-2
invariant_of-self-2 c =
    let steps : c.push_reserved.new.self.items ≡ c.self.inside.trail.items ++ c.delete_at-undo.result ∷ [] =
    c.push_reserved.ensures.items ∙ ap (λ (us : List Undo). us ++ c.delete_at-undo.result ∷ [])
    c.reserve.ensures.items in
    subst (λ us. CanGoBack us (shapes_of c.delete_at-undo.new.panes.items)) (sym steps)
    (rooms.grown_can c.self.inside.trail.items c.delete_at-undo.result (shapes_of c.self.inside.panes.items)
    (shapes_of c.delete_at-undo.new.panes.items) c.delete_at-undo.ensures.back c.delete_at-undo.ensures.can
    c.self.invariant)

pub returns-clause-ok : goal.returns-clause-ok
returns-clause-ok c =
    let steps : c.push_reserved.new.self.items ≡ c.self.inside.trail.items ++ c.delete_at-undo.result ∷ [] =
    c.push_reserved.ensures.items ∙ ap (λ (us : List Undo). us ++ c.delete_at-undo.result ∷ [])
    c.reserve.ensures.items in
    rw (← c.self.view_is)
    (ap (λ (us : List Undo). rooms.seen us (shapes_of c.delete_at-undo.new.panes.items)) steps
    ∙ rooms.seen_grown c.self.inside.trail.items c.delete_at-undo.result (shapes_of c.self.inside.panes.items)
    (shapes_of c.delete_at-undo.new.panes.items) (at_place (gone {A = Window}) c.args.at)
    c.delete_at-undo.ensures.back c.delete_at-undo.ensures.windows)
