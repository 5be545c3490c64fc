use Rattle.std.proofs.lemmas.Result.{on_ok_weaker}
use Rattle.core_scene.specs.Scenes.{scene_of}
use Rattle.core_plumb.proofs.Same.{looked_too}
use Rattle.core_plumb.proofs.looking.plumb_look.Goals as goal

pub returns-clause-ok : goal.returns-clause-ok
returns-clause-ok c =
    on_ok_weaker c.plumb_if_any.result (λ did. looked_too c.args.entry (scene_of c.args.scene.now)
    (scene_of c.plumb_if_any.new.scene) c.args.window c.args.text.now c.in_ok-asked.asked c.in_ok-asked.ensures did)
    c.plumb_if_any.ensures.ok
