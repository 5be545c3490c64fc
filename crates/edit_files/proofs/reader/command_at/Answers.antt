use Rattle.std.proofs.Common.{drop, sym, ◌∙◌}
use Rattle.std.proofs.lemmas.Result.{IfOk-weaker, IfErr-weaker}
use Rattle.edit_files.proofs.EditLemmas.{plain_reads, plain_fails}
use Rattle.edit_files.proofs.reader.command_at.Goals as goal

pub returns-in-Sam-clause-ok : goal.returns-in-Sam-clause-ok
returns-in-Sam-clause-ok c =
    IfOk-weaker c.sam_at.result _ _ (λ x h. plain_reads (drop c.args.at c.args.text.now) (sym c.in-Sam.ensures.is) ∙ h)
    c.sam_at.ensures.ok

pub returns-in-Sam-clause-err : goal.returns-in-Sam-clause-err
returns-in-Sam-clause-err c =
    IfErr-weaker c.sam_at.result _ _ (λ e h. plain_fails c.args.text.now c.args.at (sym c.in-Sam.ensures.is) e h)
    c.sam_at.ensures.err
