use Rattle.std.proofs.Common.{ap, ◌∙◌}
use Rattle.std.proofs.lemmas.Result.{on_ok_weaker}
use Rattle.core_windows.specs.Windows.{named_window, window_at, world_of}
use Rattle.core_windows.proofs.Steps.{made_there}
use Rattle.core_scene.specs.Scenes.{SceneState}
use Rattle.core_actions.proofs.deeds.make.Goals as goal

pub returns-clause-made : goal.returns-clause-made
returns-clause-made c =
    on_ok_weaker c.act.result (λ did. ap (λ (s : SceneState). window_at s.windows
    (world_of c.args.scene.now.windows.present).next) did.made
    ∙ made_there c.args.scene.now.windows.present (named_window c.args.name)) c.act.ensures.ok
