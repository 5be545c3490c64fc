use Rattle.std.proofs.Common.{ap}
use Rattle.std.proofs.lemmas.Result.{on_ok_weaker}
use Rattle.core_scene.specs.Scenes.{SceneState}
use Rattle.core_plumb.proofs.starting.request.Goals as goal

pub returns-clause-ports : goal.returns-clause-ports
returns-clause-ports c = on_ok_weaker c.act.result (λ did. ap (λ (s : SceneState). s.ports) did.made) c.act.ensures.ok
