use Rattle.std.proofs.Common.{◌+◌, sym, ◌∙◌}
use Rattle.std.proofs.lemmas.Result.{err_from_is_err_and}
use Rattle.edit_parts.proofs.Quotes.{no_quote, quote_fails, quote_open, quote_read, built_expression}
use Rattle.edit_files.proofs.scan.quoted_expression.Goals as goal

pub returns-then-not-is_at-clause-err : goal.returns-then-not-is_at-clause-err
returns-then-not-is_at-clause-err c = no_quote c.args.text.now c.args.from c.requires
    (sym c.is_at.ensures ∙ c.if-not-is_at.true)

pub returns-in_err-re-clause-err : goal.returns-in_err-re-clause-err
returns-in_err-re-clause-err c =
    let p = err_from_is_err_and c.from_residual.result c.from_residual.ensures.1 in
    rw (p.1, p.2) (quote_fails c.args.text.now c.args.from c.in_err-re.field-0.0
    (sym c.is_at.ensures ∙ c.if-not-is_at.false) c.in_err-re.ensures.err)

pub returns-then-end-text-clause-ok : goal.returns-then-end-text-clause-ok
returns-then-end-text-clause-ok c =
    let b = built_expression c.args.text.now (c.args.from + 1) c.in_ok-re.end c.in_ok-re.re c.in_ok-re.ensures.ok in (
      b.0,
      b.1,
      quote_read c.args.text.now c.args.from c.in_ok-re.end b.0 (sym c.is_at.ensures ∙ c.if-not-is_at.false)
          b.2 c.if-end-text.true,
    )

pub returns-else-end-text-clause-err : goal.returns-else-end-text-clause-err
returns-else-end-text-clause-err c =
    let b = built_expression c.args.text.now (c.args.from + 1) c.in_ok-re.end c.in_ok-re.re c.in_ok-re.ensures.ok in
    quote_open c.args.text.now c.args.from c.in_ok-re.end b.0 (sym c.is_at.ensures ∙ c.if-not-is_at.false) b.2
    c.if-end-text.false
