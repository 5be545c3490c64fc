use Rattle.std.proofs.Common.{drop, None, sym, ◌∙◌}
use Rattle.std.proofs.lemmas.Result.{err_from_is_err_and, IfOk-weaker, IfErr-weaker}
use Rattle.edit_files.specs.Command.{files_command}
use Rattle.edit_files.proofs.AddressLemmas.{address_fails, ranged_there, ranged_fails, mode_there, other_reads}
use Rattle.edit_files.proofs.AddressLemmas.{other_fails}
use Rattle.edit_files.proofs.reader.addressed_at.Goals as goal

pub returns-in_err-addr-clause-err : goal.returns-in_err-addr-clause-err
returns-in_err-addr-clause-err c =
    let p = err_from_is_err_and c.from_residual.result c.from_residual.ensures.1 in
    rw (p.1, p.2) (address_fails c.args.text.now c.args.from c.in_err-addr.field-0.0 c.requires.letter
    c.in_err-addr.ensures.refused)

pub returns-in-Some-clause-ok : goal.returns-in-Some-clause-ok
returns-in-Some-clause-ok c =
    let a = c.in_ok-addr.ensures.read in
    let there =
    ranged_there c.args.text.now c.args.from c.in_ok-addr.end c.after_blanks-at.result c.in-Some.reads_in a.0
    a.2 c.after_blanks-at.ensures.order c.in-Some.ensures.stands c.after_blanks-at.ensures.behind
    (sym c.in-Some.ensures.is) in
    IfOk-weaker c.ranged.result _ _ (λ x h. there.reads (files_command x) (h a.0 a.1).0) c.ranged.ensures.ok

pub returns-in-Some-clause-small : goal.returns-in-Some-clause-small
returns-in-Some-clause-small c =
    let a = c.in_ok-addr.ensures.read in
    IfOk-weaker c.ranged.result _ _ (λ x h. (h a.0 a.1).1) c.ranged.ensures.ok

pub returns-in-Some-clause-err : goal.returns-in-Some-clause-err
returns-in-Some-clause-err c =
    let a = c.in_ok-addr.ensures.read in
    let there =
    ranged_there c.args.text.now c.args.from c.in_ok-addr.end c.after_blanks-at.result c.in-Some.reads_in a.0
    a.2 c.after_blanks-at.ensures.order c.in-Some.ensures.stands c.after_blanks-at.ensures.behind
    (sym c.in-Some.ensures.is) in
    IfErr-weaker c.ranged.result _ _ (λ e h. ranged_fails c.args.text.now c.args.from c.after_blanks-at.result
    c.in-Some.reads_in a.0 there e (h a.0 a.1)) c.ranged.ensures.err

pub returns-in-None-clause-ok : goal.returns-in-None-clause-ok
returns-in-None-clause-ok c =
    let a = c.in_ok-addr.ensures.read in
    let mode = mode_there c.args.text.now c.args.from c.in_ok-addr.end c.after_blanks-at.result a.0 None a.2
    c.after_blanks-at.ensures.behind (sym c.in-None.ensures.is) in
    IfOk-weaker c.sam_at.result _ _ (λ x h. other_reads (drop c.args.from c.args.text.now) a.0
    (drop c.in_ok-addr.end c.args.text.now) c.requires.letter mode.0 mode.1 ∙ h) c.sam_at.ensures.ok

pub returns-in-None-clause-err : goal.returns-in-None-clause-err
returns-in-None-clause-err c =
    let a = c.in_ok-addr.ensures.read in
    let mode = mode_there c.args.text.now c.args.from c.in_ok-addr.end c.after_blanks-at.result a.0 None a.2
    c.after_blanks-at.ensures.behind (sym c.in-None.ensures.is) in
    IfErr-weaker c.sam_at.result _ _ (λ e h. other_fails c.args.text.now c.args.from a.0
    (drop c.in_ok-addr.end c.args.text.now) c.requires.letter mode.0 mode.1 e h) c.sam_at.ensures.err
