use Rattle.std.proofs.Common.{sym, ◌∙◌}
use Rattle.core_watch.proofs.Turns.{now_sent}
use Rattle.core_watch.proofs.asking.read_watch.Goals as goal

pub returns-in-Now-clause-sent : goal.returns-in-Now-clause-sent
returns-in-Now-clause-sent c =
    now_sent c.args.watch.now.present c.args.read.read c.in-Now.piece
    (sym c.in_ok-piece.ensures.answer ∙ c.in-Now.is) c.requires.small
