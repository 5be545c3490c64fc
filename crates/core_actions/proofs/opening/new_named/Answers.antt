use Rattle.std.proofs.lemmas.Result.{on_ok_weaker}
use Rattle.core_scene.specs.Scenes.{scene_of}
use Rattle.core_actions.proofs.Openings.{renamed}
use Rattle.core_actions.proofs.opening.new_named.Goals as goal

pub returns-clause-ok : goal.returns-clause-ok
returns-clause-ok c =
    on_ok_weaker c.open_or_make.result (λ did. renamed c.args.entry (scene_of c.args.scene.now)
    (scene_of c.open_or_make.new.scene) _ _ _ _ c.in_ok-name.ensures c.address_part.ensures did)
    c.open_or_make.ensures.ok
