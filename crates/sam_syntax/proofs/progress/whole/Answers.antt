use Rattle.sam_syntax.proofs.Follow.{whole_read}
use Rattle.sam_syntax.proofs.progress.whole.Goals as goal

pub returns-in_ok-command-in-Whole-clause-ok : goal.returns-in_ok-command-in-Whole-clause-ok
returns-in_ok-command-in-Whole-clause-ok c = λ r f done.
    whole_read c.in-Whole.sheet c.in_ok-command-in-Whole.field-0 c.in_ok-command-in-Whole.ensures r
    (rw c.in-Whole.is at f) done
