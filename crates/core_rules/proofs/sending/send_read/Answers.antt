use Rattle.std.proofs.Common.{◌≡◌, ℕ, ◌<◌, List, length, sym, subst, refl, ◌∙◌, arith}
use Rattle.std.proofs.lemmas.Bool.Decides.{nat_tests}
use Rattle.core_scene.specs.Scenes.{scene_of}
use Rattle.core_rules.proofs.Cutting.{used_inside, fewer, cut_more, cut_bad, cut_none}
use Rattle.core_rules.proofs.Rest.{AreLeft, left_all, left_behind, refused_did, refused_so, refused_held, ended_did}
use Rattle.core_rules.proofs.Rest.{ended_so, ended_held}
use Rattle.core_rules.proofs.sending.send_read.Goals as goal

pub loop-alloc-init : goal.loop-alloc-init
loop-alloc-init c = record { left = left_all c.args.entry c.args.text.now (scene_of c.args.scene.now); kept = refl }

pub split_at-requires : goal.split_at-requires
split_at-requires c = used_inside c.loop-alloc.rest.now c.in-Whole.msg c.in-Whole.used
    (sym c.in_ok-msg.ensures.exact ∙ c.in-Whole.is)

pub loop-alloc-preserved : goal.loop-alloc-preserved
loop-alloc-preserved c =
    let inv = c.loop-alloc.invariant in
    let done = c.in_ok-plumb-in-Whole.ensures in
    record {
      left = subst (λ (r : List ℕ). AreLeft c.args.entry c.args.text.now r (scene_of c.args.scene.now)
          (scene_of c.plumb.new.scene)) (sym c.split_at.ensures.back)
          (left_behind _ _ _ _ _ _ inv.left c.in-Whole.msg c.in-Whole.used
          (sym c.in_ok-msg.ensures.exact ∙ c.in-Whole.is) done.ok (sym c.in-None.is ∙ done.refusal));
      kept = done.kept ∙ inv.kept;
    }

pub loop-alloc-smaller : goal.loop-alloc-smaller
loop-alloc-smaller c =
    subst (λ (r : List ℕ). length r < length c.loop-alloc.rest.now) (sym c.split_at.ensures.back)
    (fewer c.loop-alloc.rest.now c.in-Whole.msg c.in-Whole.used (sym c.in_ok-msg.ensures.exact ∙ c.in-Whole.is))

pub returns-in-Some-clause-refusal : goal.returns-in-Some-clause-refusal
returns-in-Some-clause-refusal c =
    let done = c.in_ok-plumb-in-Whole.ensures in
    c.refused.ensures.refusal
    ∙ refused_so _ _ _ _ _ _ c.loop-alloc.invariant.left c.in-Whole.msg c.in-Whole.used
    (sym c.in_ok-msg.ensures.exact ∙ c.in-Whole.is) done.ok c.in-Some.refusal (sym c.in-Some.is ∙ done.refusal)

pub returns-in-Some-clause-held : goal.returns-in-Some-clause-held
returns-in-Some-clause-held c =
    let done = c.in_ok-plumb-in-Whole.ensures in
    c.refused.ensures.held
    ∙ refused_held _ _ _ _ _ _ c.loop-alloc.invariant.left c.in-Whole.msg c.in-Whole.used
    (sym c.in_ok-msg.ensures.exact ∙ c.in-Whole.is) done.ok c.in-Some.refusal (sym c.in-Some.is ∙ done.refusal)

pub returns-in-Some-clause-ok : goal.returns-in-Some-clause-ok
returns-in-Some-clause-ok c =
    let done = c.in_ok-plumb-in-Whole.ensures in
    refused_did _ _ _ _ _ _ c.loop-alloc.invariant.left c.in-Whole.msg c.in-Whole.used
    (sym c.in_ok-msg.ensures.exact ∙ c.in-Whole.is) done.ok c.in-Some.refusal (sym c.in-Some.is ∙ done.refusal)

pub returns-in-More-clause-refusal : goal.returns-in-More-clause-refusal
returns-in-More-clause-refusal c =
    c.holding.ensures.refusal ∙ ended_so _ _ _ _ _ c.loop-alloc.invariant.left _
    (cut_more c.loop-alloc.rest.now (sym c.in_ok-msg.ensures.exact ∙ c.in-More.is))

pub returns-in-More-clause-held : goal.returns-in-More-clause-held
returns-in-More-clause-held c =
    c.holding.ensures.held ∙ ended_held _ _ _ _ _ c.loop-alloc.invariant.left _
    (cut_more c.loop-alloc.rest.now (sym c.in_ok-msg.ensures.exact ∙ c.in-More.is))

pub returns-in-More-clause-ok : goal.returns-in-More-clause-ok
returns-in-More-clause-ok c = ended_did _ _ _ _ _ c.loop-alloc.invariant.left _
    (cut_more c.loop-alloc.rest.now (sym c.in_ok-msg.ensures.exact ∙ c.in-More.is))

pub returns-in-Bad-clause-refusal : goal.returns-in-Bad-clause-refusal
returns-in-Bad-clause-refusal c =
    let some : 0 < length c.loop-alloc.rest.now = grind (arith, nat_tests) in
    c.refused-in-Bad.ensures.refusal ∙ ended_so _ _ _ _ _ c.loop-alloc.invariant.left _
    (cut_bad c.loop-alloc.rest.now some (sym c.in_ok-msg.ensures.exact ∙ c.in-Bad.is))

pub returns-in-Bad-clause-held : goal.returns-in-Bad-clause-held
returns-in-Bad-clause-held c =
    let some : 0 < length c.loop-alloc.rest.now = grind (arith, nat_tests) in
    c.refused-in-Bad.ensures.held ∙ ended_held _ _ _ _ _ c.loop-alloc.invariant.left _
    (cut_bad c.loop-alloc.rest.now some (sym c.in_ok-msg.ensures.exact ∙ c.in-Bad.is))

pub returns-in-Bad-clause-ok : goal.returns-in-Bad-clause-ok
returns-in-Bad-clause-ok c =
    let some : 0 < length c.loop-alloc.rest.now = grind (arith, nat_tests) in
    ended_did _ _ _ _ _ c.loop-alloc.invariant.left _ (cut_bad c.loop-alloc.rest.now some
    (sym c.in_ok-msg.ensures.exact ∙ c.in-Bad.is))

pub returns-clause-refusal : goal.returns-clause-refusal
returns-clause-refusal c =
    let none : length c.loop-alloc.rest.now ≡ 0 = grind (arith, nat_tests) in
    c.holding-2.ensures.refusal ∙ ended_so _ _ _ _ _ c.loop-alloc.invariant.left _ (cut_none c.loop-alloc.rest.now none)

pub returns-clause-held : goal.returns-clause-held
returns-clause-held c =
    let none : length c.loop-alloc.rest.now ≡ 0 = grind (arith, nat_tests) in
    c.holding-2.ensures.held ∙ ended_held _ _ _ _ _ c.loop-alloc.invariant.left _ (cut_none c.loop-alloc.rest.now none)

pub returns-clause-ok : goal.returns-clause-ok
returns-clause-ok c =
    let none : length c.loop-alloc.rest.now ≡ 0 = grind (arith, nat_tests) in
    ended_did _ _ _ _ _ c.loop-alloc.invariant.left _ (cut_none c.loop-alloc.rest.now none)
