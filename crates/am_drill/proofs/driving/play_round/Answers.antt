use Rattle.std.proofs.Common.{refl}
use Rattle.am_drill.proofs.Playing.{round_next, round_done, round_stopped, on_ok, on_failed}
use Rattle.am_drill.proofs.driving.play_round.Goals as goal

pub play_round-requires-clause-next : goal.play_round-requires-clause-next
play_round-requires-clause-next c = round_next c.args.done c.args.seed _ _ c.requires.few c.requires.before
    c.requires.seed refl

pub returns-clause-ok : goal.returns-clause-ok
returns-clause-ok c = on_ok c.play_round.result _ _ c.play_round.ensures.ok
    (λ done. round_done c.args.done c.args.seed _ _ _ c.requires.before c.requires.seed refl done)

pub returns-clause-err : goal.returns-clause-err
returns-clause-err c = on_failed c.play_round.result _ _ c.play_round.ensures.err
    (λ stop. round_stopped c.args.done c.args.seed _ _ _ c.requires.before c.requires.seed refl stop)
