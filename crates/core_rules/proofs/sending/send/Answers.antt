use Rattle.std.proofs.Common.{◌≡◌, ◌∙◌}
use Rattle.core_scene.specs.Scenes.{scene_of}
use Rattle.core_rules.proofs.Cutting.{cut_more}
use Rattle.core_rules.proofs.Rest.{left_all, ended_did, ended_so, ended_held}
use Rattle.core_rules.proofs.sending.send.Goals as goal

pub returns-then-branch-clause-refusal : goal.returns-then-branch-clause-refusal
returns-then-branch-clause-refusal c =
    ended_so _ _ _ _ _ (left_all c.args.entry c.args.text (scene_of c.args.scene.now)) _
    (cut_more c.args.text (c.in_ok-goes_on.ensures.more c.if-branch.true))

pub returns-then-branch-clause-held : goal.returns-then-branch-clause-held
returns-then-branch-clause-held c =
    c.in_ok-goes_on.ensures.same
    ∙ ended_held _ _ _ _ _ (left_all c.args.entry c.args.text (scene_of c.args.scene.now)) _
    (cut_more c.args.text (c.in_ok-goes_on.ensures.more c.if-branch.true))

pub returns-then-branch-clause-ok : goal.returns-then-branch-clause-ok
returns-then-branch-clause-ok c =
    ended_did _ _ _ _ _ (left_all c.args.entry c.args.text (scene_of c.args.scene.now)) _
    (cut_more c.args.text (c.in_ok-goes_on.ensures.more c.if-branch.true))
