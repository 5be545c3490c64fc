use Rattle.std.proofs.Common.{sym, ◌∙◌}
use Rattle.std.proofs.lemmas.Result.{IfErr-weaker}
use Rattle.addr_syntax.proofs.Fronts.{not_both}
use Rattle.edit_parts.specs.Read.{is_for_each}
use Rattle.edit_parts.proofs.Loops.{Needs, loop_fails}
use Rattle.edit_parts.proofs.expression.loop_expression.Goals as goal
use Rattle.edit_parts.proofs.expression.loop_expression.Goals.{else-is_for_each-via-then-is_for_each+else-not-is_at}
use Rattle.edit_parts.proofs.expression.loop_expression.Goals.{else-is_for_each-via-else-is_for_each}

pub returns-clause-err : goal.returns-clause-err
returns-clause-err c =
    let needs : Needs c.args.kind c.args.text.now c.args.from = elim c.else-is_for_each.branch [
      | else-is_for_each-via-then-is_for_each+else-not-is_at w ↦ λ e. sym w.is_at.ensures ∙ w.if-not-is_at.false
      | else-is_for_each-via-else-is_for_each w ↦ λ e. absurd (not_both (is_for_each c.args.kind) e
          (sym c.is_for_each.ensures ∙ w.if-is_for_each.false))
    ] in
    IfErr-weaker c.quoted_expression.result _ _ (λ e x. loop_fails c.args.kind c.args.text.now c.args.from e needs x)
    c.quoted_expression.ensures.err
