use Rattle.std.proofs.Common.{ℕ, List, codes, ap}
use Rattle.std.proofs.lemmas.Result.{on_ok_weaker}
use Rattle.core_scene.specs.Scenes.{scene_of}
use Rattle.core_windows.specs.Windows.{window_at}
use Rattle.core_actions.specs.Files.{get_outcome}
use Rattle.core_actions.specs.Seen.{dir_of}
use Rattle.core_exec.proofs.Saying.{said_of}
use Rattle.core_exec.proofs.builtins.get_or_say.Goals as goal

pub returns-clause-ok : goal.returns-clause-ok
returns-clause-ok c =
    let before = scene_of c.args.scene.now in
    on_ok_weaker c.say.result (λ did. said_of c.args.entry before (scene_of c.get.new.scene) (scene_of c.say.new.scene)
    _ _ c.in_ok-dir.dir (dir_of (window_at before.windows c.args.window)) (codes "Get") c.in_ok-fault.fault
    (ap (λ (t : List ℕ). get_outcome c.args.window t before) c.as_slice.ensures) c.in_ok-fault.ensures.ok
    c.in_ok-dir.ensures c.in_ok-fault.ensures.fault did) c.say.ensures.ok
