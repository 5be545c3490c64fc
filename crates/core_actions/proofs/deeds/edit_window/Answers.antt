use Rattle.std.proofs.Common.{ap}
use Rattle.std.proofs.lemmas.Result.{on_ok_weaker}
use Rattle.core_windows.specs.Windows.{edited}
use Rattle.core_scene.specs.Scenes.{SceneState}
use Rattle.core_actions.proofs.Windows.{still_lives, text_then}
use Rattle.core_actions.proofs.deeds.edit_window.Goals as goal

pub returns-clause-lives : goal.returns-clause-lives
returns-clause-lives c =
    on_ok_weaker c.act.result (λ did. still_lives (edited c.args.edits c.args.entry.at) c.args.window _ _
    (ap (λ (s : SceneState). s.windows) did.made) c.requires.lives) c.act.ensures.ok

pub returns-clause-text : goal.returns-clause-text
returns-clause-text c =
    on_ok_weaker c.act.result (λ did. text_then c.args.edits c.args.entry.at c.args.window _ _
    (ap (λ (s : SceneState). s.windows) did.made) c.requires.lives) c.act.ensures.ok
