use Rattle.std.proofs.Common.{rules, ◌∷◌, ◌∙◌}
use Rattle.core_scene.specs.Scenes.{scene_of, CanDoAll}
use Rattle.core_scene.proofs.Dids.{did_then, can_rest}
use Rattle.core_scene.proofs.scene.Scene.act_all.Goals as goal

pub loop-deed-preserved : goal.loop-deed-preserved
loop-deed-preserved c =
    let inv = c.loop-deed.invariant in
    let act = c.in_ok-act.ensures in
    let can : CanDoAll c.args.entry (scene_of c.loop-deed.self) (c.in-Some.deed ∷ c.next.new.self.rest.items) =
    search rules in
    record {
      next = tt;
      ends = tt;
      did = did_then inv.did act.ok;
      can = can_rest c.next.new.self.rest.items act.ok can;
      kept = act.kept ∙ inv.kept;
      book = act.book ∙ inv.book;
    }
