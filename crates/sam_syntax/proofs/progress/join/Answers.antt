use Rattle.sam_syntax.proofs.Follow.{past_joins}
use Rattle.sam_syntax.proofs.progress.join.Goals as goal

pub returns-in-Past : goal.returns-in-Past
returns-in-Past c = λ p x l.
    rw (c.in-Past.is, c.past_on.ensures p x) (past_joins c.in-Past.field-0 c.in-Past.limit p c.args.next)
