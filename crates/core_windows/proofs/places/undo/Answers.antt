use Rattle.std.proofs.Common.{◌≡◌, sym, subst, arith, refl}
use Rattle.std.specs.Prelude.{Option, Some, slice_set}
use Rattle.std.specs.Option.{option_map}
use Rattle.std.proofs.lemmas.List.{length-map}
use Rattle.core_windows.specs.Shapes.{Lives}
use Rattle.core_windows.specs.Shapes.{PaneShape, shapes_of, shape_if_live, taken_back, CanTakeBack}
use Rattle.core_windows.specs.Trail.{undone, revived, CanUndo}
use Rattle.core_windows.specs.declared.undo.Undo.{Undo}
use Rattle.core_windows.specs.declared.undo.Undo.TheVariants.{Restore}
use Rattle.core_windows.proofs.Rooms as rooms
use Rattle.core_windows.proofs.places.undo.Goals as goal

pub take_back-requires : goal.take_back-requires
take_back-requires c =
    let can : CanUndo (Restore c.in-Restore.at c.in-Restore.back) (shapes_of c.args.panes.now.items) =
    subst (λ (u : Undo). CanUndo u (shapes_of c.args.panes.now.items)) c.in-Restore.is c.requires in
    let within = rooms.lives_within (CanTakeBack c.in-Restore.back) (shapes_of c.args.panes.now.items) c.in-Restore.at
    can in
    subst (λ (o : Option PaneShape). Lives (CanTakeBack c.in-Restore.back) o)
    (rooms.live_shape c.args.panes.now.items c.in-Restore.at c.index_mut-in-Restore.result.now
    (omega (arith, within, length-map c.args.panes.now.items shape_if_live)) c.index_mut-in-Restore.ensures.value)
    can

pub returns-in-Revive : goal.returns-in-Revive
returns-in-Revive c =
    subst (λ (u : Undo). shapes_of (slice_set c.args.panes.now.items c.in-Revive.at (Some c.in-Revive.pane)) ≡ undone u
    (shapes_of c.args.panes.now.items)) (sym c.in-Revive.is)
    (rooms.shapes_put c.args.panes.now.items c.in-Revive.at c.index_mut.result.now (Some c.in-Revive.pane)
    (revived c.in-Revive.pane) c.index_mut.ensures.value refl)

pub returns-in-Restore : goal.returns-in-Restore
returns-in-Restore c =
    subst (λ (u : Undo). shapes_of (slice_set c.args.panes.now.items c.in-Restore.at c.take_back.new.slot) ≡ undone u
    (shapes_of c.args.panes.now.items)) (sym c.in-Restore.is)
    (rooms.shapes_put c.args.panes.now.items c.in-Restore.at c.index_mut-in-Restore.result.now c.take_back.new.slot
    (option_map (taken_back c.in-Restore.back)) c.index_mut-in-Restore.ensures.value c.take_back.ensures)
