use Rattle.std.proofs.Common.{◌≡◌, length}
use Rattle.core_scene.specs.Scenes.{scene_of, kept_of}
use Rattle.core_rules.proofs.Rest.{AreLeft}
use Rattle.core_rules.proofs.sending.send_read.Given as goal

abbrev pub invariant-loop-alloc : goal.invariant-loop-alloc
invariant-loop-alloc l = record {
  left : AreLeft l.entry l.fn.text l.rest (scene_of l.fn.scene) (scene_of l.scene);
  kept : kept_of l.scene ≡ kept_of l.fn.scene;
}

abbrev pub decreases-loop-alloc : goal.decreases-loop-alloc
decreases-loop-alloc l = length l.rest
