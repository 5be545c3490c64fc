use Rattle.std.proofs.Common.{◌≡◌, sym, ◌∙◌, length, arith}
use Rattle.std.proofs.lemmas.Bool.Decides.{nat_tests}
use Rattle.core_tasks.proofs.Controlled.{lives_behind, left_behind, deleted_did, deleted_unrefused, refused_did}
use Rattle.core_tasks.proofs.Controlled.{refused_so, no_lines, none_left, none_refused}
use Rattle.core_tasks.proofs.control.control.Goals as goal

pub loop-rest-preserved : goal.loop-rest-preserved
loop-rest-preserved c =
    let inv = c.loop-rest.invariant in
    let line = c.in_ok-do_line.ensures in
    let h = sym line.next ∙ c.in-GoesOn.is in
    record {
      left = left_behind _ _ _ _ _ _ _ _ _ c.split_line.ensures.lines inv.left line.ok h;
      lives = lives_behind _ _ _ _ _ inv.lives line.ok h;
      kept = line.kept ∙ inv.kept;
    }

pub returns-in-Deleted-clause-refusal : goal.returns-in-Deleted-clause-refusal
returns-in-Deleted-clause-refusal c =
    let line = c.in_ok-do_line.ensures in
    deleted_unrefused _ _ _ _ _ _ _ _ _ c.split_line.ensures.lines c.loop-rest.invariant.left line.ok
    (sym line.next ∙ c.in-Deleted.is)

pub returns-in-Deleted-clause-ok : goal.returns-in-Deleted-clause-ok
returns-in-Deleted-clause-ok c =
    let line = c.in_ok-do_line.ensures in
    deleted_did _ _ _ _ _ _ _ _ _ c.split_line.ensures.lines c.loop-rest.invariant.left line.ok
    (sym line.next ∙ c.in-Deleted.is)

pub returns-in-Refused-clause-refusal : goal.returns-in-Refused-clause-refusal
returns-in-Refused-clause-refusal c =
    let line = c.in_ok-do_line.ensures in
    refused_so _ _ _ _ _ _ _ _ _ c.split_line.ensures.lines c.loop-rest.invariant.left line.ok c.in-Refused.refusal
    (sym line.next ∙ c.in-Refused.is)

pub returns-in-Refused-clause-ok : goal.returns-in-Refused-clause-ok
returns-in-Refused-clause-ok c =
    let line = c.in_ok-do_line.ensures in
    refused_did _ _ _ _ _ _ _ _ _ c.split_line.ensures.lines c.loop-rest.invariant.left line.ok c.in-Refused.refusal
    (sym line.next ∙ c.in-Refused.is)

pub returns-clause-refusal : goal.returns-clause-refusal
returns-clause-refusal c =
    let n : length c.loop-rest.rest.now ≡ 0 = grind (arith, nat_tests) in
    none_refused _ _ _ _ _ _ (no_lines c.loop-rest.rest.now n) c.loop-rest.invariant.left

pub returns-clause-ok : goal.returns-clause-ok
returns-clause-ok c =
    let n : length c.loop-rest.rest.now ≡ 0 = grind (arith, nat_tests) in
    none_left _ _ _ _ _ _ (no_lines c.loop-rest.rest.now n) c.loop-rest.invariant.left
