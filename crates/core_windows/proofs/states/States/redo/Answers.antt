use Rattle.std.proofs.Common.{◌≡◌, List, sym, ap, ◌∙◌}
use Rattle.std.specs.Prelude.{Option}
use Rattle.core_windows.specs.Places.{live_at}
use Rattle.core_windows.specs.Windows.{Window, planned, planned_if_any, redone_window}
use Rattle.core_windows.proofs.Rooms as rooms
use Rattle.win_text.specs.Bodies.{redo_plan_of}
use Rattle.std.proofs.lemmas.Result.{on_ok_weaker}
use Rattle.win_text.specs.declared.types.TextPlan.{TextPlan}
use Rattle.core_windows.proofs.states.States.redo.Goals as goal

pub returns-in-Some-clause-ok : goal.returns-in-Some-clause-ok
returns-in-Some-clause-ok c =
    let alike = rooms.place_alike (planned c.in-Some.plan) redone_window c.args.at c.args.self.now.present
    (rooms.lives_then (λ (w : Window). c.in_ok-plan.field-0 ≡ redo_plan_of w.body)
    (λ (w : Window). planned c.in-Some.plan w ≡ redone_window w) (live_at c.args.self.now.present c.args.at)
    (λ w e. ap (λ (o : Option TextPlan). planned_if_any o w) (sym c.in-Some.is ∙ e)) c.in_ok-plan.ensures.plan) in
    on_ok_weaker c.do_plan.result (λ e. e ∙ ap (λ (ws : List (Option Window)). record c.args.self.now { present = ws })
    alike) c.do_plan.ensures.ok

pub returns-in-None-clause-ok : goal.returns-in-None-clause-ok
returns-in-None-clause-ok c =
    let idle = rooms.place_idle redone_window c.args.at c.args.self.now.present
    (rooms.lives_then (λ (w : Window). c.in_ok-plan.field-0 ≡ redo_plan_of w.body)
    (λ (w : Window). redone_window w ≡ w) (live_at c.args.self.now.present c.args.at)
    (λ w e. ap (λ (o : Option TextPlan). planned_if_any o w) (sym e ∙ c.in-None.is)) c.in_ok-plan.ensures.plan) in
    ap (λ (ws : List (Option Window)). record c.args.self.now { present = ws }) (sym idle)
