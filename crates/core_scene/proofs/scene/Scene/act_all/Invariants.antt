use Rattle.std.proofs.Common.{◌≡◌}
use Rattle.core_scene.specs.Scenes.{scene_of, kept_of, CanDoAll, Did}
use Rattle.core_scene.proofs.scene.Scene.act_all.Given as goal

-- the deeds so far were done, and those that are left can be
abbrev pub invariant-loop-deed : goal.invariant-loop-deed
invariant-loop-deed l = record {
  next : (goal.iterator-loop-deed).can_next l.deed-iterator;
  ends : (goal.iterator-loop-deed).is_finite l.deed-iterator;
  did : Did l.entry (scene_of l.fn.self) (scene_of l.self) l.yielded;
  can : CanDoAll l.entry (scene_of l.self) l.deed-iterator.rest.items;
  kept : kept_of l.self ≡ kept_of l.fn.self;
  book : l.self.book ≡ l.fn.self.book;
}
