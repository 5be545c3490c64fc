use Rattle.std.proofs.Common.{◌≡◌, sym, subst, ap, ◌∙◌}
use Rattle.std.specs.Prelude.{Option, None}
use Rattle.core_windows.specs.Windows.{Window}
use Rattle.core_windows.specs.Places.{gone}
use Rattle.core_windows.specs.Shapes.{Lives, Always}
use Rattle.core_windows.specs.Shapes.{shape_if_live, seen_if_live}
use Rattle.core_windows.specs.Trail.{revived}
use Rattle.core_windows.specs.declared.pane.Pane.{Pane}
use Rattle.core_windows.proofs.Rooms as rooms
use Rattle.core_windows.proofs.places.delete_at.Goals as goal

pub returns-clause-windows : goal.returns-clause-windows
returns-clause-windows c =
    rooms.windows_put c.args.panes.now.items c.args.at c.index_mut-slot.result.now c.replace.new.dest
    (gone {A = Window}) c.index_mut-slot.ensures.value (ap (λ (o : Option Pane). seen_if_live (shape_if_live o))
    c.replace.ensures.after)

pub returns-clause-back : goal.returns-clause-back
returns-clause-back c =
    rooms.shapes_back c.args.panes.now.items c.args.at c.index_mut-slot.result.now c.replace.new.dest
    (revived c.in-Some.pane) c.index_mut-slot.ensures.value (ap shape_if_live
    (sym c.in-Some.is ∙ c.replace.ensures.value))

pub unreachable-requires : goal.unreachable-requires
unreachable-requires c =
    let none : c.index_mut-slot.result.now ≡ None = sym c.replace.ensures.value ∙ c.in-None.is in
    let lives = subst (λ (o : Option Window). Lives Always o) (rooms.live_window c.args.panes.now.items c.args.at
    c.index_mut-slot.result.now c.requires.within c.index_mut-slot.ensures.value) c.requires.lives in
    subst (λ (o : Option Pane). Lives (Always {A = Window}) (seen_if_live (shape_if_live o))) none lives
