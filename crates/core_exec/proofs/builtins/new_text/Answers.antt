use Rattle.std.proofs.lemmas.Result.{on_ok_weaker}
use Rattle.core_scene.specs.Scenes.{scene_of}
use Rattle.core_exec.proofs.Saying.{new_too}
use Rattle.core_exec.proofs.builtins.new_text.Goals as goal

pub returns-clause-ok : goal.returns-clause-ok
returns-clause-ok c =
    on_ok_weaker c.new_window.result (λ did. new_too c.args.entry (scene_of c.args.scene.now)
    (scene_of c.new_window.new.scene) c.args.window _ _ c.as_slice.ensures did) c.new_window.ensures.ok
