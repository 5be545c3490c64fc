use Rattle.std.proofs.lemmas.Result.{err_from_is_err_and}
use Rattle.edit_parts.specs.Kinds.{puts}
use Rattle.edit_parts.proofs.Acts.{put_read, put_fails}
use Rattle.edit_parts.proofs.action.put.Goals as goal

pub returns-in_err-t-clause-err : goal.returns-in_err-t-clause-err
returns-in_err-t-clause-err c =
    let p = err_from_is_err_and c.from_residual.result c.from_residual.ensures.1 in
    rw (p.1, p.2) (put_fails c.args.place c.args.runes.now c.args.from c.after_blanks.result c.in_err-t.field-0.0
    c.after_blanks.ensures.order c.after_blanks.ensures.behind c.in_err-t.ensures.err)

pub returns-clause-ok : goal.returns-clause-ok
returns-clause-ok c = (
  puts c.args.place c.in_ok-t.t,
  c.puts.ensures,
  put_read c.args.place c.in_ok-t.t c.args.runes.now c.args.from
      c.after_blanks.result c.in_ok-t.end c.after_blanks.ensures.order c.after_blanks.ensures.behind
      c.in_ok-t.ensures.ok,
)
