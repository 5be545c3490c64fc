use Rattle.std.proofs.Common.{sym, subst}
use Rattle.std.specs.Prelude.{Option}
use Rattle.std.specs.Option.{option_map}
use Rattle.core_windows.specs.Windows.{Window, set}
use Rattle.core_windows.specs.Shapes.{Lives, IsSettable}
use Rattle.core_windows.specs.Shapes.{PaneShape, taken_back, CanTakeBack}
use Rattle.core_windows.proofs.Rooms as rooms
use Rattle.core_windows.proofs.places.set_at.Goals as goal

pub set-requires : goal.set-requires
set-requires c =
    subst (λ (o : Option Window). Lives (IsSettable c.args.setting) o)
    (rooms.live_window c.args.panes.now.items c.args.at c.index_mut.result.now c.requires.within
    c.index_mut.ensures.value) c.requires.can

pub returns-clause-windows : goal.returns-clause-windows
returns-clause-windows c =
    rooms.windows_put c.args.panes.now.items c.args.at c.index_mut.result.now c.set.new.slot
    (option_map (set c.args.setting)) c.index_mut.ensures.value c.set.ensures.window

pub returns-clause-back : goal.returns-clause-back
returns-clause-back c =
    rooms.shapes_back c.args.panes.now.items c.args.at c.index_mut.result.now c.set.new.slot
    (option_map (taken_back c.set.result)) c.index_mut.ensures.value c.set.ensures.back

pub returns-clause-can : goal.returns-clause-can
returns-clause-can c =
    subst (λ (o : Option PaneShape). Lives (CanTakeBack c.set.result) o)
    (sym (rooms.live_shape_put c.args.panes.now.items c.args.at c.set.new.slot c.requires.within)) c.set.ensures.can
