use Rattle.std.proofs.lemmas.Result.{on_ok_weaker}
use Rattle.core_scene.specs.Scenes.{scene_of}
use Rattle.core_plumb.proofs.Same.{plumbed_too}
use Rattle.core_plumb.proofs.plumbing.plumb.Goals as goal

pub returns-clause-ok : goal.returns-clause-ok
returns-clause-ok c =
    on_ok_weaker c.plumb_by.result (λ did. plumbed_too c.args.entry (scene_of c.args.scene.now)
    (scene_of c.plumb_by.new.scene) c.args.msg.now c.in_ok-route.route c.in_ok-route.ensures.exact did)
    c.plumb_by.ensures.ok
