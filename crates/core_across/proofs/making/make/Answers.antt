use Rattle.std.proofs.lemmas.Result.{on_ok_weaker}
use Rattle.core_scene.specs.Scenes.{scene_of}
use Rattle.core_across.proofs.Changing.{all_changes, can_do, plans_did}
use Rattle.core_across.proofs.making.make.Goals as goal

pub act_all-requires : goal.act_all-requires
act_all-requires c = can_do c.args.entry c.args.plans (scene_of c.args.scene.now) _ c.requires
    (all_changes c.args.plans (scene_of c.args.scene.now) _ _ _ c.in_ok-deeds.ensures.deeds
    c.in_ok-deeds.ensures.jobs c.in_ok-put_requests.ensures)

pub returns-clause-ok : goal.returns-clause-ok
returns-clause-ok c =
    on_ok_weaker c.append_errors.result (λ did. plans_did c.args.entry (scene_of c.args.scene.now)
    (scene_of c.act_all.new.self) (scene_of c.append_errors.new.scene) c.args.plans _ _ _ _ _
    c.in_ok-act_all.ensures.ok (all_changes c.args.plans (scene_of c.args.scene.now) _ _ _
    c.in_ok-deeds.ensures.deeds c.in_ok-deeds.ensures.jobs c.in_ok-put_requests.ensures)
    c.as_slice.ensures c.in_ok-dir.ensures c.in_ok-deeds.ensures.prints did)
    c.append_errors.ensures.ok
