use Rattle.am_drill.proofs.Playing.{opening_next, opening_done, opening_stopped, nothing_done, on_err, on_ok, on_failed}
use Rattle.am_drill.proofs.driving.play_opening.Goals as goal

pub play-requires-clause-next : goal.play-requires-clause-next
play-requires-clause-next c = opening_next _ _ c.requires.empty c.in_ok-first.ensures

pub returns-clause-ok : goal.returns-clause-ok
returns-clause-ok c = on_ok c.play.result _ _ c.play.ensures.ok (λ done. opening_done _ _ _ c.requires.empty
    c.in_ok-first.ensures done)

pub returns-clause-err : goal.returns-clause-err
returns-clause-err c = on_failed c.play.result _ _ c.play.ensures.err
    (λ stop. opening_stopped _ _ _ c.requires.empty c.in_ok-first.ensures stop)

pub returns-in_err-first-clause-err : goal.returns-in_err-first-clause-err
returns-in_err-first-clause-err c = on_err c.from_residual.result _ (nothing_done _ c.requires.empty)
