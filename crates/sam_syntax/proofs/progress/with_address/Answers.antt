use Rattle.sam_syntax.specs.declared.progress.Progress.TheVariants.{Whole}
use Rattle.edit_parts.specs.Pieces.{At}
use Rattle.sam_syntax.proofs.Follow.{address_joins, long_address, large_joins}
use Rattle.sam_syntax.proofs.progress.with_address.Goals as goal

pub returns-in-Whole : goal.returns-in-Whole
returns-in-Whole c = λ a x.
    rw c.whole_if.ensures (address_joins c.args.sheet c.in-Whole.addr a c.args.next c.join_address.result
    c.join_address.ensures.some c.join_address.ensures.none (rw c.in-Whole.is at x))

pub returns-in-Deep : goal.returns-in-Deep
returns-in-Deep c = λ a x. rw c.past.ensures (long_address c.args.sheet a c.args.next (rw c.in-Deep.is at x))

pub returns-in-Large : goal.returns-in-Large
returns-in-Large c = λ a x. rw c.past-in-Large.ensures (large_joins (Whole c.args.sheet) (At a) c.args.next
    (rw c.in-Large.is at x))
