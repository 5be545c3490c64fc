use Rattle.std.proofs.Common.{ap}
use Rattle.std.proofs.lemmas.Result.{on_ok_weaker}
use Rattle.core_windows.specs.Windows.{set}
use Rattle.core_scene.specs.Scenes.{SceneState}
use Rattle.core_actions.proofs.Windows.{still_lives}
use Rattle.core_actions.proofs.deeds.set_in_window.Goals as goal

pub returns-clause-lives : goal.returns-clause-lives
returns-clause-lives c =
    on_ok_weaker c.act.result (λ did. still_lives (set c.args.setting) c.args.window _ _
    (ap (λ (s : SceneState). s.windows) did.made) c.requires.lives) c.act.ensures.ok
