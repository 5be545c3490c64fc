use Rattle.std.proofs.lemmas.Result.{on_ok_weaker}
use Rattle.core_scene.specs.Scenes.{scene_of}
use Rattle.core_across.proofs.Changing.{said_did}
use Rattle.core_across.proofs.saying.say_fault.Goals as goal

pub returns-clause-ok : goal.returns-clause-ok
returns-clause-ok c =
    on_ok_weaker c.append_errors.result (λ did. said_did c.args.entry (scene_of c.args.scene.now)
    (scene_of c.append_errors.new.scene) _ _ _ _ _ c.as_slice.ensures c.in_ok-dir.ensures c.in_ok-line.ensures did)
    c.append_errors.ensures.ok
