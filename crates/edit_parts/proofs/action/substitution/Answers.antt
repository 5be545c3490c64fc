use Rattle.std.proofs.lemmas.Result.{err_from_is_err_and}
use Rattle.edit_parts.specs.Tree as tree
use Rattle.edit_parts.proofs.Substitutions.{substitution_read, nth_fails, quoted_fails, closing_fails}
use Rattle.edit_parts.proofs.action.substitution.Goals as goal

pub returns-in_err-nth-clause-err : goal.returns-in_err-nth-clause-err
returns-in_err-nth-clause-err c =
    let p = err_from_is_err_and c.from_residual.result c.from_residual.ensures.1 in
    rw (p.1, p.2) (nth_fails c.args.text.now c.args.from c.in_err-nth.field-0.0 c.in_err-nth.ensures.err)

pub returns-in_err-re-clause-err : goal.returns-in_err-re-clause-err
returns-in_err-re-clause-err c =
    let p = err_from_is_err_and c.from_residual-in_err-re.result c.from_residual-in_err-re.ensures.1 in
    rw (p.1, p.2) (quoted_fails c.args.text.now c.args.from c.in_ok-nth.slash c.in_ok-nth.nth c.in_err-re.field-0.0
    c.in_ok-nth.ensures.ok c.in_err-re.ensures.err)

pub returns-in_err-with_end-clause-err : goal.returns-in_err-with_end-clause-err
returns-in_err-with_end-clause-err c =
    let p = err_from_is_err_and c.from_residual-in_err-with_end.result c.from_residual-in_err-with_end.ensures.1 in
    let q = c.in_ok-re.ensures.ok in
    rw (p.1, p.2) (closing_fails c.args.text.now c.args.from c.in_ok-nth.slash c.in_ok-re.with_from c.in_ok-nth.nth q.0
    c.in_err-with_end.field-0.0 c.in_ok-nth.ensures.ok q.2 c.in_err-with_end.ensures.err)

pub returns-clause-ok : goal.returns-clause-ok
returns-clause-ok c =
    let q = c.in_ok-re.ensures.ok in (
      tree.Substitute c.in_ok-nth.nth q.0 c.in_ok-with.with c.all-all.result.0,
      c.subst.ensures q.0 q.1,
      substitution_read c.args.text.now c.args.from c.in_ok-nth.slash c.in_ok-re.with_from c.in_ok-with_end.with_end
          c.after_blanks.result c.all-all.result.1 c.in_ok-nth.nth q.0 c.in_ok-with.with c.all-all.result.0
          c.in_ok-nth.ensures.ok q.2 c.in_ok-with_end.ensures.ok c.in_ok-with.ensures c.after_blanks.ensures.order
          c.after_blanks.ensures.behind c.all-all.ensures,
    )
