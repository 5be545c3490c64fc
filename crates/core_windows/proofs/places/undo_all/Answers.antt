use Rattle.std.proofs.Common.{List, sym, subst, ap, ◌∙◌}
use Rattle.core_windows.specs.Shapes.{shapes_of}
use Rattle.core_windows.specs.Trail.{all_undone, CanGoBack}
use Rattle.core_windows.specs.declared.undo.Undo.{Undo}
use Rattle.core_windows.proofs.Rooms as rooms
use Rattle.core_windows.proofs.places.undo_all.Goals as goal

pub undo-requires : goal.undo-requires
undo-requires c =
    (rooms.shrunk_can c.pop.new.self.items c.in-Some.step (shapes_of c.loop-step.panes.items)
    (subst (λ (us : List Undo). CanGoBack us (shapes_of c.loop-step.panes.items)) c.in-Some.ensures.items
    c.loop-step.invariant.can)).0

pub loop-step-preserved : goal.loop-step-preserved
loop-step-preserved c =
    let can = (rooms.shrunk_can c.pop.new.self.items c.in-Some.step (shapes_of c.loop-step.panes.items)
    (subst (λ (us : List Undo). CanGoBack us (shapes_of c.loop-step.panes.items)) c.in-Some.ensures.items
    c.loop-step.invariant.can)).1 in
    record {
      can = subst (CanGoBack c.pop.new.self.items) (sym c.undo.ensures) can;
      shapes = ap (all_undone c.pop.new.self.items) c.undo.ensures
          ∙ sym (rooms.undone_last c.pop.new.self.items c.in-Some.step (shapes_of c.loop-step.panes.items))
          ∙ ap (λ (us : List Undo). all_undone us (shapes_of c.loop-step.panes.items)) (sym c.in-Some.ensures.items)
          ∙ c.loop-step.invariant.shapes;
    }
