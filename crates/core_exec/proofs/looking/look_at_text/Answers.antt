use Rattle.std.proofs.Common.{sym, ◌∙◌}
use Rattle.std.proofs.lemmas.Result.{on_ok_weaker}
use Rattle.core_scene.specs.Scenes.{scene_of}
use Rattle.core_exec.proofs.Saying.{other_look}
use Rattle.core_exec.proofs.looking.look_at_text.Goals as goal

pub returns-clause-ok : goal.returns-clause-ok
returns-clause-ok c =
    let told = c.in_ok-plumb_look.ensures in
    on_ok_weaker c.look.result (λ did. other_look c.args.entry (scene_of c.args.scene.now)
    (scene_of c.plumb_look.new.scene) (scene_of c.look.new.scene) c.args.window c.as_slice.result.now
    c.args.text.now (sym c.if-branch.false ∙ told.plumbed) (told.stays c.if-branch.false) c.as_slice.ensures did)
    c.look.ensures.ok
