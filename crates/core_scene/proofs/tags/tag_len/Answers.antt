use Rattle.std.proofs.Common.{sym, ap, ◌∙◌}
use Rattle.std.proofs.lemmas.Result.{IfOk-weaker}
use Rattle.core_windows.specs.Panes.{window_of}
use Rattle.core_scene.specs.Sizes.{whole_size}
use Rattle.core_scene.proofs.Sized.{sized_whole}
use Rattle.core_scene.proofs.tags.tag_len.Goals as goal

pub returns : goal.returns
returns c =
    IfOk-weaker c.whole.result _ _ (λ runes h. h ∙ (ap whole_size c.of.ensures
    ∙ sym (sized_whole (window_of c.args.pane.now)))) c.whole.ensures
