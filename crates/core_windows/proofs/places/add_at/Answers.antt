use Rattle.std.proofs.Common.{sym, subst}
use Rattle.std.specs.Prelude.{Option}
use Rattle.std.specs.Option.{option_map}
use Rattle.core_windows.specs.Windows.{Window, added}
use Rattle.core_windows.specs.Shapes.{PaneShape, taken_back, CanTakeBack, Lives, Always}
use Rattle.core_windows.proofs.Rooms as rooms
use Rattle.core_windows.proofs.places.add_at.Goals as goal

pub add-requires : goal.add-requires
add-requires c =
    subst (λ (o : Option Window). Lives (Always {A = Window}) o) (rooms.live_window c.args.panes.now.items c.args.at
    c.index_mut-slot.result.now c.requires.within c.index_mut-slot.ensures.value) c.requires.lives

pub returns-in-Ok-clause-windows : goal.returns-in-Ok-clause-windows
returns-in-Ok-clause-windows c =
    rooms.windows_put c.args.panes.now.items c.args.at c.index_mut-slot.result.now c.add.new.slot
    (option_map (added c.args.text.now)) c.index_mut-slot.ensures.value c.in-Ok.ensures.window

pub returns-in-Ok-clause-back : goal.returns-in-Ok-clause-back
returns-in-Ok-clause-back c =
    rooms.shapes_back c.args.panes.now.items c.args.at c.index_mut-slot.result.now c.add.new.slot
    (option_map (taken_back c.in-Ok.back)) c.index_mut-slot.ensures.value c.in-Ok.ensures.back

pub returns-in-Ok-clause-can : goal.returns-in-Ok-clause-can
returns-in-Ok-clause-can c =
    subst (λ (o : Option PaneShape). Lives (CanTakeBack c.in-Ok.back) o)
    (sym (rooms.live_shape_put c.args.panes.now.items c.args.at c.add.new.slot c.requires.within))
    c.in-Ok.ensures.can

pub returns-in-Err-clause-err : goal.returns-in-Err-clause-err
returns-in-Err-clause-err c =
    rooms.shapes_kept c.args.panes.now.items c.args.at c.index_mut-slot.result.now c.add.new.slot
    c.index_mut-slot.ensures.value c.in-Err.ensures.err
