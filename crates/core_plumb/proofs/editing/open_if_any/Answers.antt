use Rattle.std.proofs.Common.{Some, sym}
use Rattle.std.proofs.lemmas.Result.{on_ok_weaker}
use Rattle.core_scene.specs.Scenes.{scene_of}
use Rattle.core_plumb.proofs.Same.{shown_too}
use Rattle.core_plumb.proofs.editing.open_if_any.Goals as goal

pub returns-in-Some-clause-ok : goal.returns-in-Some-clause-ok
returns-in-Some-clause-ok c =
    on_ok_weaker c.open.result (λ did. shown_too c.args.entry (scene_of c.args.scene.now) (scene_of c.open.new.scene)
    (Some c.in-Some.target) c.args.target _ _ (sym c.in-Some.is) c.slice_if_any.ensures did) c.open.ensures.ok
