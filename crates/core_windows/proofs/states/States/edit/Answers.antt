use Rattle.std.proofs.Common.{◌≡◌, List, ap, ◌∙◌}
use Rattle.std.specs.Prelude.{Option}
use Rattle.core_windows.specs.Places.{live_at}
use Rattle.core_windows.specs.Windows.{Window, planned, edit_plan, edited}
use Rattle.core_windows.proofs.Rooms as rooms
use Rattle.std.proofs.lemmas.Result.{on_ok_weaker}
use Rattle.win_text.specs.declared.types.TextPlan.{TextPlan}
use Rattle.core_windows.proofs.states.States.edit.Goals as goal

pub returns-clause-ok : goal.returns-clause-ok
returns-clause-ok c =
    let alike = rooms.place_alike (planned c.in_ok-plan.plan) (edited c.args.edits c.args.at) c.args.place
    c.args.self.now.present (rooms.lives_then (λ (w : Window). c.in_ok-plan.plan ≡ edit_plan c.args.edits c.args.at
    w) (λ (w : Window). planned c.in_ok-plan.plan w ≡ edited c.args.edits c.args.at w)
    (live_at c.args.self.now.present c.args.place) (λ w e. ap (λ (p : TextPlan). planned p w) e)
    c.in_ok-plan.ensures.plan) in
    on_ok_weaker c.do_plan.result (λ e. e ∙ ap (λ (ws : List (Option Window)). record c.args.self.now { present = ws })
    alike) c.do_plan.ensures.ok
