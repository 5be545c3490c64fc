use Rattle.edit_parts.proofs.Written.{nth_read}
use Rattle.edit_parts.proofs.scan.nth.Goals as goal

pub returns-clause-ok : goal.returns-clause-ok
returns-clause-ok c =
    nth_read c.args.text.now c.args.from c.in_ok-n.end c.after_blanks.result c.in_ok-n.n c.in_ok-n.ensures.ok
    c.after_blanks.ensures.order c.after_blanks.ensures.within c.after_blanks.ensures.behind
