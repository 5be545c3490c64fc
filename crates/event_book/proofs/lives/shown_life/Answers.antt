use Rattle.std.proofs.Common.{sym}
use Rattle.event_book.proofs.ShownLemmas.{shown_life-settled, shown_life-pending}
use Rattle.event_book.proofs.lives.shown_life.Goals as goal

pub returns-then-i-settled : goal.returns-then-i-settled
returns-then-i-settled c = sym (shown_life-settled c.args.all.now c.args.settled c.args.i c.index-all-i.result
    c.if-i-settled.true c.requires)

pub returns-else-i-settled : goal.returns-else-i-settled
returns-else-i-settled c = sym (shown_life-pending c.args.all.now c.args.settled c.args.i c.if-i-settled.false)
