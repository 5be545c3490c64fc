use Rattle.std.proofs.Common.{◌≡◌, List, sym, subst, ap, ◌∙◌}
use Rattle.std.specs.Prelude.{Option, IfOk, IfSome}
use Rattle.am_text.specs.Twice.{Twice}
use Rattle.core_windows.specs.Places.{live_at}
use Rattle.core_windows.specs.Windows.{Window}
use Rattle.core_windows.specs.Shapes.{Lives, Always, IsPlannable}
use Rattle.core_windows.proofs.Rooms as rooms
use Rattle.win_text.specs.Bodies.{redo_plan_of}
use Rattle.core_windows.proofs.states.States.redo_plan.Goals as goal

pub redo_plan-requires : goal.redo_plan-requires
redo_plan-requires c =
    let lives = subst (λ (t : Twice (List (Option Window))). Lives (Always {A = Window}) (live_at t.present c.args.at))
    (sym c.self.view_is) c.requires in
    let within = rooms.seen_within (Always {A = Window}) c.self.inside.panes.items c.args.at lives in
    subst (λ (o : Option Window). Lives (Always {A = Window}) o) (rooms.live_window c.self.inside.panes.items c.args.at
    c.index.result.now within c.index.ensures) lives

pub returns-clause-plan : goal.returns-clause-plan
returns-clause-plan c =
    let lives = subst (λ (t : Twice (List (Option Window))). Lives (Always {A = Window}) (live_at t.present c.args.at))
    (sym c.self.view_is) c.requires in
    let within = rooms.seen_within (Always {A = Window}) c.self.inside.panes.items c.args.at lives in
    let there = sym (rooms.live_window c.self.inside.panes.items c.args.at c.index.result.now within c.index.ensures)
    ∙ ap (λ (t : Twice (List (Option Window))). live_at t.present c.args.at) c.self.view_is in
    subst (λ (o : Option Window). IfOk c.redo_plan.result (λ plan. Lives (λ (w : Window). plan ≡ redo_plan_of w.body)
    o)) there c.redo_plan.ensures.plan

pub returns-clause-can : goal.returns-clause-can
returns-clause-can c =
    let lives = subst (λ (t : Twice (List (Option Window))). Lives (Always {A = Window}) (live_at t.present c.args.at))
    (sym c.self.view_is) c.requires in
    let within = rooms.seen_within (Always {A = Window}) c.self.inside.panes.items c.args.at lives in
    let there = sym (rooms.live_window c.self.inside.panes.items c.args.at c.index.result.now within c.index.ensures)
    ∙ ap (λ (t : Twice (List (Option Window))). live_at t.present c.args.at) c.self.view_is in
    subst (λ (o : Option Window). IfOk c.redo_plan.result (λ plan. IfSome plan (λ p. Lives (IsPlannable p) o))) there
    c.redo_plan.ensures.can
