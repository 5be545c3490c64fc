use Rattle.std.proofs.Common.{refl, sym, ◌∙◌}
use Rattle.std.proofs.lemmas.Result.{IfOk-weaker, IfErr-weaker}
use Rattle.sam_syntax.proofs.Follow.{finish_read, finish_past, finish_short}
use Rattle.sam_syntax.proofs.progress.finish.Goals as goal

pub returns-then-is_end-clause-ok : goal.returns-then-is_end-clause-ok
returns-then-is_end-clause-ok c =
    IfOk-weaker c.whole.result _ _ (λ cmd x. finish_read c.args.progress c.position_of.result c.position_of.ensures
    (sym c.is_end.ensures ∙ c.if-is_end.true) cmd x) c.whole.ensures.ok

pub returns-then-is_end-clause-err : goal.returns-then-is_end-clause-err
returns-then-is_end-clause-err c =
    IfErr-weaker c.whole.result _ _ (λ e x. finish_past c.args.progress c.position_of.result c.position_of.ensures
    (sym c.is_end.ensures ∙ c.if-is_end.true) c.args.end e x) c.whole.ensures.err

pub returns-else-is_end-clause-err : goal.returns-else-is_end-clause-err
returns-else-is_end-clause-err c =
    rw c.short.ensures (λ r f. (
      refl,
      finish_short c.args.progress c.position_of.result c.position_of.ensures
          (sym c.is_end.ensures ∙ c.if-is_end.false) r f,
    ))
