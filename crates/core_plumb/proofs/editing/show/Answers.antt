use Rattle.std.proofs.lemmas.Result.{on_ok_weaker}
use Rattle.core_scene.specs.Scenes.{scene_of}
use Rattle.core_plumb.proofs.Same.{shown_too}
use Rattle.core_plumb.proofs.editing.show.Goals as goal

pub returns-clause-ok : goal.returns-clause-ok
returns-clause-ok c =
    on_ok_weaker c.open_if_any.result (λ did. shown_too c.args.entry (scene_of c.args.scene.now)
    (scene_of c.open_if_any.new.scene) c.in_ok-target.target _ c.in_ok-address.address _
    c.in_ok-target.ensures.exact c.in_ok-address.ensures did) c.open_if_any.ensures.ok
