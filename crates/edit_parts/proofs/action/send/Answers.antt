use Rattle.std.proofs.lemmas.Result.{err_from_is_err_and}
use Rattle.edit_parts.specs.Kinds.{sends}
use Rattle.edit_parts.proofs.Acts.{send_read, send_fails}
use Rattle.edit_parts.proofs.action.send.Goals as goal

pub returns-in_err-addr-clause-err : goal.returns-in_err-addr-clause-err
returns-in_err-addr-clause-err c =
    let p = err_from_is_err_and c.from_residual.result c.from_residual.ensures.1 in
    rw (p.1, p.2) (send_fails c.args.way c.args.text.now c.args.from c.after_blanks.result c.in_err-addr.field-0.0
    c.after_blanks.ensures.order c.after_blanks.ensures.behind c.in_err-addr.ensures.refused)

pub returns-clause-ok : goal.returns-clause-ok
returns-clause-ok c =
    let a = c.in_ok-addr.ensures.read in (
      sends c.args.way a.0,
      c.sends.ensures a.0 a.1,
      send_read c.args.way a.0 c.args.text.now c.args.from
          c.after_blanks.result c.in_ok-addr.end c.after_blanks.ensures.order c.after_blanks.ensures.behind a.2,
    )
