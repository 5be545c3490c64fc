use Rattle.edit_parts.specs.Kinds.{loop_of}
use Rattle.sam_syntax.proofs.Follow.{loop_joins, deep_loop}
use Rattle.sam_syntax.proofs.progress.with_small_loop.Goals as goal

pub returns-in_ok-join_loop : goal.returns-in_ok-join_loop
returns-in_ok-join_loop c = λ t x.
    rw c.whole_if.ensures (loop_joins c.args.sheet (loop_of c.args.kind) c.args.re t c.args.next
    c.in_ok-join_loop.field-0 c.if-sheet-lt-MOST.true c.in_ok-join_loop.ensures.some c.in_ok-join_loop.ensures.none
    x)

pub returns-else-sheet-lt-MOST : goal.returns-else-sheet-lt-MOST
returns-else-sheet-lt-MOST c = λ t x.
    rw c.past.ensures (deep_loop c.args.sheet (loop_of c.args.kind) c.args.re t c.args.next c.if-sheet-lt-MOST.false x)
