use Rattle.std.proofs.Common.{refl, sym, arith, ◌∙◌}
use Rattle.edit_files.proofs.NameLemmas.{reads_blank, reads_rune, reads_refused, reads_end}
use Rattle.edit_files.proofs.names.read_names.Goals as goal
use Rattle.edit_files.proofs.names.read_names.Goals.{then-c-eq-SPACE+in_ok-end}
use Rattle.edit_files.proofs.names.read_names.Goals.{else-c-eq-SPACE+else-is_refused+in_ok-push}

pub returns-then-is_refused-clause-err : goal.returns-then-is_refused-clause-err
returns-then-is_refused-clause-err c =
    reads_refused c.args.one c.args.text.now c.args.from c.loop-at.at c.loop-at.all c.loop-at.name c.loop-at.invariant.0
    (omega (arith, c.loop-at-test.true)) c.if-c-eq-SPACE.false (sym c.is_refused.ensures ∙ c.if-is_refused.true)

pub loop-at-preserved : goal.loop-at-preserved
loop-at-preserved c =
    elim c.if-c-eq-SPACE.branch [
      | then-c-eq-SPACE+in_ok-end w ↦ rw (w.all-is, w.name-is) (
        reads_blank c.args.one c.args.text.now c.args.from c.loop-at.at c.loop-at.all _ c.loop-at.name _
            c.loop-at.invariant.0 (omega (arith, c.loop-at-test.true)) w.if-c-eq-SPACE.true w.in_ok-end.ensures.all
            w.in_ok-end.ensures.name,
        refl,
      )
      | else-c-eq-SPACE+else-is_refused+in_ok-push w ↦ rw (w.all-is, w.name-is) (
        reads_rune c.args.one c.args.text.now c.args.from c.loop-at.at c.loop-at.all c.loop-at.name _
            c.loop-at.invariant.0 (omega (arith, c.loop-at-test.true)) w.if-c-eq-SPACE.false
            (sym w.is_refused.ensures ∙ w.if-is_refused.false) w.in_ok-push.ensures.ok,
        refl,
      )
    ]

pub returns-clause-ok : goal.returns-clause-ok
returns-clause-ok c =
    reads_end c.args.one c.args.text.now c.args.from c.loop-at.at c.loop-at.all _ c.loop-at.name c.loop-at.invariant.0
    (omega (arith, c.loop-at-test.false)) c.in_ok-end-2.ensures.all
