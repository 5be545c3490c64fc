use Rattle.edit_parts.proofs.Written.{closed_read}
use Rattle.edit_parts.proofs.text.closed_text.Goals as goal

pub returns-clause-ok : goal.returns-clause-ok
returns-clause-ok c = closed_read c.args.text.now c.args.from c.in_ok-end.end c.in_ok-unescaped.field-0
    c.in_ok-end.ensures.ok c.in_ok-unescaped.ensures
