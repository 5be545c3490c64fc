use Rattle.std.proofs.Common.{◌+◌, arith}
use Rattle.am_drill.proofs.Playing.{front_up, on_err}
use Rattle.am_drill.proofs.driving.play_rounds.Goals as goal

pub returns-in_err-play_opening-clause-err : goal.returns-in_err-play_opening-clause-err
returns-in_err-play_opening-clause-err c = on_err c.from_residual.result _
    (front_up 0 c.args.rounds _ (omega arith) c.in_err-play_opening.ensures.err)

pub returns-in_err-play_round-clause-err : goal.returns-in_err-play_round-clause-err
returns-in_err-play_round-clause-err c = on_err c.from_residual-in_err-play_round.result _
    (front_up (c.loop-done.done + 1) c.args.rounds _ (omega arith) c.in_err-play_round.ensures.err)
