use Rattle.std.proofs.Common.{◌≡◌, List, sym, subst, ap, ◌∙◌}
use Rattle.std.specs.Prelude.{Option, IfOk}
use Rattle.am_text.specs.Twice.{Twice}
use Rattle.core_windows.specs.Places.{live_at}
use Rattle.core_windows.specs.Windows.{Window, edit_plan}
use Rattle.core_windows.specs.Shapes.{Lives, IsPlannable, IsEditable}
use Rattle.core_windows.proofs.Rooms as rooms
use Rattle.core_windows.proofs.states.States.edit_plan.Goals as goal

pub edit_plan-requires : goal.edit_plan-requires
edit_plan-requires c =
    let lives = subst (λ (t : Twice (List (Option Window))). Lives (IsEditable c.args.edits)
    (live_at t.present c.args.place)) (sym c.self.view_is) c.requires in
    let within = rooms.seen_within (IsEditable c.args.edits) c.self.inside.panes.items c.args.place lives in
    subst (λ (o : Option Window). Lives (IsEditable c.args.edits) o)
    (rooms.live_window c.self.inside.panes.items c.args.place c.index.result.now within c.index.ensures) lives

pub returns-clause-plan : goal.returns-clause-plan
returns-clause-plan c =
    let lives = subst (λ (t : Twice (List (Option Window))). Lives (IsEditable c.args.edits)
    (live_at t.present c.args.place)) (sym c.self.view_is) c.requires in
    let within = rooms.seen_within (IsEditable c.args.edits) c.self.inside.panes.items c.args.place lives in
    let there = sym (rooms.live_window c.self.inside.panes.items c.args.place c.index.result.now within c.index.ensures)
    ∙ ap (λ (t : Twice (List (Option Window))). live_at t.present c.args.place) c.self.view_is in
    subst (λ (o : Option Window). IfOk c.edit_plan.result (λ plan. Lives
    (λ (w : Window). plan ≡ edit_plan c.args.edits c.args.at w) o)) there c.edit_plan.ensures.plan

pub returns-clause-can : goal.returns-clause-can
returns-clause-can c =
    let lives = subst (λ (t : Twice (List (Option Window))). Lives (IsEditable c.args.edits)
    (live_at t.present c.args.place)) (sym c.self.view_is) c.requires in
    let within = rooms.seen_within (IsEditable c.args.edits) c.self.inside.panes.items c.args.place lives in
    let there = sym (rooms.live_window c.self.inside.panes.items c.args.place c.index.result.now within c.index.ensures)
    ∙ ap (λ (t : Twice (List (Option Window))). live_at t.present c.args.place) c.self.view_is in
    subst (λ (o : Option Window). IfOk c.edit_plan.result (λ plan. Lives (IsPlannable plan) o)) there
    c.edit_plan.ensures.can
