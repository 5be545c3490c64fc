use Rattle.std.proofs.Common.{sym, ◌∙◌}
use Rattle.std.proofs.lemmas.Result.{IfOk-weaker, IfErr-weaker}
use Rattle.edit_parts.proofs.Written.{text_closed, text_lines, closed_fails, lines_fail, no_text}
use Rattle.edit_parts.proofs.text.text.Goals as goal

pub returns-then-is_at-clause-ok : goal.returns-then-is_at-clause-ok
returns-then-is_at-clause-ok c =
    IfOk-weaker c.closed_text.result _ _ (λ a x. text_closed c.args.text.now c.args.from a.1 a.0
    (sym c.is_at.ensures ∙ c.if-is_at.true) x) c.closed_text.ensures.ok

pub returns-then-is_at-clause-err : goal.returns-then-is_at-clause-err
returns-then-is_at-clause-err c =
    IfErr-weaker c.closed_text.result _ _ (λ e x. closed_fails c.args.text.now c.args.from e
    (sym c.is_at.ensures ∙ c.if-is_at.true) x) c.closed_text.ensures.err

pub returns-then-is_at-2-clause-ok : goal.returns-then-is_at-2-clause-ok
returns-then-is_at-2-clause-ok c =
    IfOk-weaker c.lines.result _ _ (λ a x. text_lines c.args.text.now c.args.from a.1 a.0
    (sym c.is_at-else-is_at.ensures ∙ c.if-is_at-2.true) x) c.lines.ensures.ok

pub returns-then-is_at-2-clause-err : goal.returns-then-is_at-2-clause-err
returns-then-is_at-2-clause-err c =
    IfErr-weaker c.lines.result _ _ (λ e x. lines_fail c.args.text.now c.args.from e
    (sym c.is_at-else-is_at.ensures ∙ c.if-is_at-2.true) x) c.lines.ensures.err

pub returns-else-is_at-2-clause-err : goal.returns-else-is_at-2-clause-err
returns-else-is_at-2-clause-err c =
    no_text c.args.text.now c.args.from c.requires (sym c.is_at.ensures ∙ c.if-is_at.false)
    (sym c.is_at-else-is_at.ensures ∙ c.if-is_at-2.false)
