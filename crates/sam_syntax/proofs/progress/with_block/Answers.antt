use Rattle.sam_syntax.proofs.Follow.{block_joins, deep_block}
use Rattle.sam_syntax.proofs.progress.with_block.Goals as goal

pub returns-in_ok-open_block : goal.returns-in_ok-open_block
returns-in_ok-open_block c =
    rw c.whole_if.ensures (block_joins c.args.sheet c.args.next c.in_ok-open_block.field-0 c.if-sheet-lt-MOST.true
    c.in_ok-open_block.ensures.some c.in_ok-open_block.ensures.none)

pub returns-else-sheet-lt-MOST : goal.returns-else-sheet-lt-MOST
returns-else-sheet-lt-MOST c = rw c.past.ensures (deep_block c.args.sheet c.args.next c.if-sheet-lt-MOST.false)
