use Rattle.std.proofs.lemmas.Result.{on_ok_weaker}
use Rattle.core_scene.specs.Scenes.{scene_of}
use Rattle.core_across.proofs.Told.{told_some, told_none}
use Rattle.core_across.proofs.doing.edit.Goals as goal

pub returns-in-Some-clause-ok : goal.returns-in-Some-clause-ok
returns-in-Some-clause-ok c =
    on_ok_weaker c.do_command.result (λ did. told_some c.args.entry (scene_of c.args.scene.now)
    (scene_of c.do_command.new.scene) c.args.window c.args.text.now _ c.in-Some.cmd c.in-Some.is
    c.in_ok-cmd.ensures did) c.do_command.ensures.ok

pub returns-in-None-clause-ok : goal.returns-in-None-clause-ok
returns-in-None-clause-ok c =
    on_ok_weaker c.say.result (λ did. told_none c.args.entry (scene_of c.args.scene.now) (scene_of c.say.new.scene)
    c.args.window c.args.text.now _ c.in-None.is c.in_ok-cmd.ensures did) c.say.ensures.ok
