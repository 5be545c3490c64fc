use Rattle.std.proofs.Common.{IfOk}
use Rattle.std.proofs.lemmas.Result.{IfOk-weaker}
use Rattle.core_windows.specs.Panes.{window_of}
use Rattle.core_scene.proofs.Sized.{cleared_is}
use Rattle.core_scene.proofs.tags.setting_item.Goals as goal

pub returns-in-ClearTag : goal.returns-in-ClearTag
returns-in-ClearTag c =
    rw c.in-ClearTag.is (IfOk-weaker c.cleared_item.result _ _ (λ item h. cleared_is c.args.origin
    (window_of c.args.pane.now) c.of.result item c.of.ensures h) c.cleared_item.ensures)
