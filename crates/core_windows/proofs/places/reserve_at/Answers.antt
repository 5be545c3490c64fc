use Rattle.std.proofs.Common.{sym, subst}
use Rattle.std.specs.Prelude.{Option, IfOk}
use Rattle.core_windows.specs.declared.pane.Pane.{Pane}
use Rattle.core_windows.specs.Windows.{Window}
use Rattle.core_windows.specs.Shapes.{Lives, IsPlannable}
use Rattle.core_windows.specs.Shapes.{IsReadyPane}
use Rattle.core_windows.proofs.Rooms.{live_window, roomier_put, live_put}
use Rattle.core_windows.proofs.places.reserve_at.Goals as goal

pub reserve-requires : goal.reserve-requires
reserve-requires c =
    subst (λ (o : Option Window). Lives (IsPlannable c.args.plan.now) o)
    (live_window c.args.panes.now.items c.args.at c.index_mut.result.now c.requires.within
    c.index_mut.ensures.value) c.requires.can

pub returns-clause-roomier : goal.returns-clause-roomier
returns-clause-roomier c =
    roomier_put c.args.panes.now.items c.args.at c.index_mut.result.now c.reserve.new.slot c.index_mut.ensures.value
    c.reserve.ensures.roomier

pub returns-clause-ready : goal.returns-clause-ready
returns-clause-ready c =
    subst (λ (o : Option Pane). IfOk c.reserve.result (λ ready. Lives (IsReadyPane c.args.plan.now ready) o))
    (sym (live_put c.args.panes.now.items c.args.at c.reserve.new.slot c.requires.within)) c.reserve.ensures.ready
