use Rattle.std.proofs.Common.{◌≡◌, length, IsSome}
use Rattle.am_text.specs.Lines.{lines_of}
use Rattle.core_windows.specs.Windows.{window_at}
use Rattle.core_scene.specs.Scenes.{scene_of, kept_of}
use Rattle.core_tasks.proofs.Controlled.{AreLeft}
use Rattle.core_tasks.proofs.control.control.Given as goal

abbrev pub invariant-loop-rest : goal.invariant-loop-rest
invariant-loop-rest l = record {
  left : AreLeft l.entry l.window (lines_of l.fn.text) (lines_of l.rest) (scene_of l.fn.scene) (scene_of l.scene);
  lives : IsSome (window_at l.scene.windows.present l.window);
  kept : kept_of l.scene ≡ kept_of l.fn.scene;
}

abbrev pub decreases-loop-rest : goal.decreases-loop-rest
decreases-loop-rest l = length l.rest
