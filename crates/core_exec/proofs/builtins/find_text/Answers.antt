use Rattle.std.proofs.lemmas.Result.{on_ok_weaker}
use Rattle.core_scene.specs.Scenes.{scene_of}
use Rattle.core_exec.proofs.Saying.{found_too}
use Rattle.core_exec.proofs.builtins.find_text.Goals as goal

pub returns-clause-ok : goal.returns-clause-ok
returns-clause-ok c =
    on_ok_weaker c.find.result (λ did. found_too c.args.entry (scene_of c.args.scene.now) (scene_of c.find.new.scene)
    c.args.window _ _ c.as_slice.ensures did) c.find.ensures.ok
