use Rattle.edit_parts.proofs.Written.{dot_read}
use Rattle.edit_parts.proofs.text.lines.Goals as goal

pub returns-clause-ok : goal.returns-clause-ok
returns-clause-ok c = dot_read c.args.text.now c.args.from c.in_ok-end.end c.in_ok-copied.field-0 c.in_ok-end.ensures.ok
    c.in_ok-copied.ensures
