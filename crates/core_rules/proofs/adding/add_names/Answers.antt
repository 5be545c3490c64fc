use Rattle.std.proofs.Common.{◌≡◌, true, rules}
use Rattle.core_scene.specs.Scenes.{scene_of}
use Rattle.core_rules.specs.Adding.{fits}
use Rattle.core_rules.proofs.Added.{can_add_sets}
use Rattle.core_rules.proofs.adding.add_names.Goals as goal

pub act_all-requires : goal.act_all-requires
act_all-requires c =
    let room : fits c.args.found.0 c.args.written.bytes (scene_of c.args.scene.now) ≡ true = search rules in
    can_add_sets c.args.entry (scene_of c.args.scene.now) _ _ _ _ _ c.requires.named c.requires.counted room
    c.in_ok-deeds.ensures
