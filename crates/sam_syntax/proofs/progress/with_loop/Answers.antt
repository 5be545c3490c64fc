use Rattle.edit_parts.specs.Kinds.{loop_of}
use Rattle.sam_syntax.proofs.Follow.{large_loop}
use Rattle.sam_syntax.proofs.progress.with_loop.Goals as goal

pub returns-in-None : goal.returns-in-None
returns-in-None c = λ t x. rw c.past.ensures (large_loop c.args.sheet (loop_of c.args.kind) t c.args.next
    (rw c.in-None.is at x))
