use Rattle.edit_parts.specs.Pieces.{Does}
use Rattle.sam_syntax.specs.declared.progress.Progress.TheVariants.{Whole}
use Rattle.sam_syntax.proofs.Follow.{action_joins, long_action, large_joins}
use Rattle.sam_syntax.proofs.progress.with_action.Goals as goal

pub returns-in_ok-join_action-in-Whole : goal.returns-in_ok-join_action-in-Whole
returns-in_ok-join_action-in-Whole c = λ act x l.
    rw c.whole_if.ensures (action_joins c.args.sheet c.in-Whole.act act c.args.next c.in_ok-join_action-in-Whole.field-0
    c.in_ok-join_action-in-Whole.ensures.some c.in_ok-join_action-in-Whole.ensures.none (rw c.in-Whole.is at x) l)

pub returns-in-Deep : goal.returns-in-Deep
returns-in-Deep c = λ act x l. rw c.past.ensures (long_action c.args.sheet act c.args.next (rw c.in-Deep.is at x))

pub returns-in-Large : goal.returns-in-Large
returns-in-Large c = λ act x l. rw c.past-in-Large.ensures (large_joins (Whole c.args.sheet) (Does act) c.args.next
    (rw c.in-Large.is at x))
