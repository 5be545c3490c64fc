use Rattle.std.proofs.Common.{sym, subst}
use Rattle.std.specs.Prelude.{Option}
use Rattle.std.specs.Option.{option_map}
use Rattle.core_windows.specs.declared.pane.Pane.{Pane}
use Rattle.core_windows.specs.Windows.{planned}
use Rattle.core_windows.specs.Shapes.{Lives}
use Rattle.core_windows.specs.Shapes.{PaneShape, taken_back, CanTakeBack, IsReadyPane}
use Rattle.core_windows.proofs.Rooms.{windows_put, shapes_back, live_pane, live_shape_put}
use Rattle.core_windows.proofs.places.make_at.Goals as goal

pub make-requires : goal.make-requires
make-requires c =
    subst (λ (o : Option Pane). Lives (IsReadyPane c.args.plan c.args.ready) o)
    (live_pane c.args.panes.now.items c.args.at c.index_mut.result.now c.requires.within c.index_mut.ensures.value)
    c.requires.ready

pub returns-clause-windows : goal.returns-clause-windows
returns-clause-windows c =
    windows_put c.args.panes.now.items c.args.at c.index_mut.result.now c.make.new.slot
    (option_map (planned c.args.plan)) c.index_mut.ensures.value c.make.ensures.window

pub returns-clause-back : goal.returns-clause-back
returns-clause-back c =
    shapes_back c.args.panes.now.items c.args.at c.index_mut.result.now c.make.new.slot
    (option_map (taken_back c.make.result)) c.index_mut.ensures.value c.make.ensures.back

pub returns-clause-can : goal.returns-clause-can
returns-clause-can c =
    subst (λ (o : Option PaneShape). Lives (CanTakeBack c.make.result) o)
    (sym (live_shape_put c.args.panes.now.items c.args.at c.make.new.slot c.requires.within)) c.make.ensures.can
