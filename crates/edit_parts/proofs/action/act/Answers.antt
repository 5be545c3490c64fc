use Rattle.std.proofs.lemmas.Result.{IfOk-weaker, IfErr-weaker}
use Rattle.edit_parts.proofs.Acts.{substitute_read, substitute_fails}
use Rattle.edit_parts.proofs.action.act.Goals as goal

pub returns-in-Substitute-clause-ok : goal.returns-in-Substitute-clause-ok
returns-in-Substitute-clause-ok c =
    rw c.in-Substitute.is (IfOk-weaker c.substitution.result _ _ (λ a x. (
      x.0,
      x.1,
      substitute_read x.0 c.args.text.now c.args.from c.after_blanks.result a.1 c.after_blanks.ensures.order
          c.after_blanks.ensures.behind x.2,
    )) c.substitution.ensures.ok)

pub returns-in-Substitute-clause-err : goal.returns-in-Substitute-clause-err
returns-in-Substitute-clause-err c =
    rw c.in-Substitute.is (IfErr-weaker c.substitution.result _ _ (λ e x. substitute_fails c.args.text.now c.args.from
    c.after_blanks.result e c.after_blanks.ensures.order c.after_blanks.ensures.behind x)
    c.substitution.ensures.err)
