use Rattle.std.proofs.Common.{◌∙◌}
use Rattle.std.proofs.lemmas.Result.{IfOk-weaker, IfErr-weaker}
use Rattle.edit_files.proofs.EditLemmas.{inner_reads, inner_fails, inner_missing, solid_at}
use Rattle.edit_files.proofs.reader.inner.Goals as goal

pub returns-then-at-text-clause-ok : goal.returns-then-at-text-clause-ok
returns-then-at-text-clause-ok c =
    IfOk-weaker c.edit_at.result _ _ (λ x e. inner_reads c.args.text.now c.args.from c.after_blanks-at.result
    c.if-at-text.true c.after_blanks-at.ensures.behind ∙ e) c.edit_at.ensures.ok

pub returns-then-at-text-clause-err : goal.returns-then-at-text-clause-err
returns-then-at-text-clause-err c =
    IfErr-weaker c.edit_at.result _ _ (λ e x. inner_fails c.args.text.now c.args.from c.after_blanks-at.result
    c.after_blanks-at.ensures.order c.if-at-text.true c.after_blanks-at.ensures.behind
    (solid_at c.args.text.now c.args.from c.after_blanks-at.result c.after_blanks-at.ensures.behind) e x)
    c.edit_at.ensures.err

pub returns-else-at-text-clause-ok : goal.returns-else-at-text-clause-ok
returns-else-at-text-clause-ok c =
    inner_missing c.args.text.now c.args.from c.after_blanks-at.result c.if-at-text.false
    c.after_blanks-at.ensures.within
    c.after_blanks-at.ensures.behind
