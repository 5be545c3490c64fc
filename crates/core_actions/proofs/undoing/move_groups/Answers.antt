use Rattle.core_scene.specs.Scenes.{scene_of}
use Rattle.core_actions.proofs.Moving.{all_can_move}
use Rattle.core_actions.proofs.undoing.move_groups.Goals as goal

pub act_all-requires : goal.act_all-requires
act_all-requires c = all_can_move c.args.entry c.args.way c.in-Some.number (scene_of c.args.scene.now) _
    c.in_ok-deeds.ensures
