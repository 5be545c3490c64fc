use Rattle.std.proofs.Common.{Some, None, sym, ◌∙◌, option_copied}
use Rattle.std.proofs.lemmas.Result.{on_ok_weaker}
use Rattle.core_scene.specs.Scenes.{scene_of}
use Rattle.core_actions.proofs.Openings.{opened}
use Rattle.core_actions.proofs.opening.open_or_make.Goals as goal

pub returns-in-Some-clause-ok : goal.returns-in-Some-clause-ok
returns-in-Some-clause-ok c =
    on_ok_weaker c.open.result (λ did. opened c.args.entry (scene_of c.args.scene.now) (scene_of c.open.new.scene)
    c.args.name (option_copied c.args.address) (Some c.in-Some.target)
    (sym c.in_ok-target.ensures.exact ∙ c.in-Some.is) did) c.open.ensures.ok

pub returns-in-None-clause-ok : goal.returns-in-None-clause-ok
returns-in-None-clause-ok c =
    on_ok_weaker c.make_empty.result (λ did. opened c.args.entry (scene_of c.args.scene.now)
    (scene_of c.make_empty.new.scene) c.args.name (option_copied c.args.address) None
    (sym c.in_ok-target.ensures.exact ∙ c.in-None.is) did) c.make_empty.ensures.ok
