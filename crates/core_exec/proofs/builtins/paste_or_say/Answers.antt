use Rattle.std.proofs.Common.{codes, refl}
use Rattle.std.proofs.lemmas.Result.{on_ok_weaker}
use Rattle.core_scene.specs.Scenes.{scene_of}
use Rattle.core_windows.specs.Windows.{window_at}
use Rattle.core_actions.specs.Editing.{paste_outcome}
use Rattle.core_actions.specs.Seen.{dir_of}
use Rattle.core_exec.proofs.Saying.{said_of}
use Rattle.core_exec.proofs.builtins.paste_or_say.Goals as goal

pub returns-clause-ok : goal.returns-clause-ok
returns-clause-ok c =
    let before = scene_of c.args.scene.now in
    let o = paste_outcome c.args.window before in
    on_ok_weaker c.say.result (λ did. said_of c.args.entry before (scene_of c.paste.new.scene)
    (scene_of c.say.new.scene) o o c.in_ok-dir.dir (dir_of (window_at before.windows c.args.window)) (codes "Paste")
    c.in_ok-fault.fault refl c.in_ok-fault.ensures.ok c.in_ok-dir.ensures c.in_ok-fault.ensures.fault did)
    c.say.ensures.ok
