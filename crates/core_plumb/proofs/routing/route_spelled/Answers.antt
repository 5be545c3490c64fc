use Rattle.std.proofs.lemmas.Result.{IfOk-weaker}
use Rattle.core_plumb.proofs.Spelled.{stays_spelled}
use Rattle.core_plumb.proofs.routing.route_spelled.Goals as goal

pub returns-clause-spelled : goal.returns-clause-spelled
returns-clause-spelled c =
    IfOk-weaker c.route.result _ _ (λ found same. stays_spelled c.messages_are_delivered_whole.ensures.spelled
    c.args.scene.now.files.present c.sets.result.now c.args.msg.now found c.requires same) c.route.ensures
