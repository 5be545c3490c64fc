use Rattle.std.proofs.lemmas.Result.{on_ok_weaker}
use Rattle.core_scene.specs.Scenes.{scene_of}
use Rattle.core_across.proofs.Dropped.{can_delete_all, deleted_once}
use Rattle.core_across.proofs.dropping.delete_each.Goals as goal

pub act_all-requires : goal.act_all-requires
act_all-requires c = can_delete_all c.args.entry (scene_of c.args.scene.now) c.args.windows _ _ _ _ c.requires
    c.as_slice.ensures c.in_ok-apart.ensures c.as_slice-2.ensures c.in_ok-deeds.ensures

pub returns-clause-ok : goal.returns-clause-ok
returns-clause-ok c =
    on_ok_weaker c.act_all.result (λ did. deleted_once c.args.entry (scene_of c.args.scene.now)
    (scene_of c.act_all.new.self) c.args.windows _ _ _ _ c.as_slice.ensures c.in_ok-apart.ensures
    c.as_slice-2.ensures c.in_ok-deeds.ensures did) c.act_all.ensures.ok
