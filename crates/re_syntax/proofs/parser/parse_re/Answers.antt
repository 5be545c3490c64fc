use Rattle.std.proofs.Common.{◌≡◌, ◌≤◌, length, get_or, arith, sym, inl, inr}
use Rattle.std.proofs.lemmas.Result.{IfOk-weaker, IfErr-weaker}
use Rattle.re_syntax.proofs.Answered.{more_here, read_near, stop_here, behind_here, refused_here, finished_here}
use Rattle.re_syntax.proofs.Answered.{fails_here}
use Rattle.re_syntax.proofs.parser.parse_re.Goals as goal
use Rattle.re_syntax.proofs.parser.parse_re.Goals.{else-is_stop-via-then-is_stop+else-not-is_escaped}
use Rattle.re_syntax.proofs.parser.parse_re.Goals.{else-is_stop-via-else-is_stop}

pub returns-then-not-is_escaped-clause-read : goal.returns-then-not-is_escaped-clause-read
returns-then-not-is_escaped-clause-read c =
    let i = c.loop-at.invariant in
    let l : c.loop-at.at ≤ length c.args.text.now = omega (arith, c.loop-at-test.true) in
    IfOk-weaker c.finish.result _ _ (λ answer f. (finished_here c.args.stop c.args.text.now c.args.from c.loop-at.at i.0
    c.loop-at.auto.at l i.1 (inr (c.loop-at-test.true, sym c.if-is_stop.ensures)) c.loop-at.parser i.2 answer.0
    answer.1 f).0) c.finish.ensures.ok

pub returns-then-not-is_escaped-clause-small : goal.returns-then-not-is_escaped-clause-small
returns-then-not-is_escaped-clause-small c =
    let i = c.loop-at.invariant in
    let l : c.loop-at.at ≤ length c.args.text.now = omega (arith, c.loop-at-test.true) in
    IfOk-weaker c.finish.result _ _ (λ answer f. (finished_here c.args.stop c.args.text.now c.args.from c.loop-at.at i.0
    c.loop-at.auto.at l i.1 (inr (c.loop-at-test.true, sym c.if-is_stop.ensures)) c.loop-at.parser i.2 answer.0
    answer.1 f).1) c.finish.ensures.ok

pub returns-then-not-is_escaped-clause-refused : goal.returns-then-not-is_escaped-clause-refused
returns-then-not-is_escaped-clause-refused c =
    let i = c.loop-at.invariant in
    let l : c.loop-at.at ≤ length c.args.text.now = omega (arith, c.loop-at-test.true) in
    IfErr-weaker c.finish.result _ _ (λ fault f. fails_here c.args.stop c.args.text.now c.args.from c.loop-at.at i.0
    c.loop-at.auto.at l i.1 (inr (c.loop-at-test.true, sym c.if-is_stop.ensures)) c.loop-at.parser i.2
    (λ k. stop_here c.args.stop c.args.text.now c.args.from c.loop-at.at i.0 c.loop-at.auto.at l i.1
    c.loop-at.parser i.2 c.if-not-is_escaped.ensures c.if-is_stop.ensures) fault f) c.finish.ensures.err

pub returns-in-None-clause-refused : goal.returns-in-None-clause-refused
returns-in-None-clause-refused c =
    let i = c.loop-at.invariant in
    let l : c.loop-at.at ≤ length c.args.text.now = omega (arith, c.loop-at-test.true) in
    let none = rw c.in-None.is at c.in_ok-next.ensures.none in
    refused_here c.args.stop c.args.text.now c.args.from c.loop-at.at i.0 c.loop-at.auto.at l i.1 c.loop-at-test.true
    (none i.0 i.2)
    (elim c.else-is_stop.branch [
      | else-is_stop-via-then-is_stop+else-not-is_escaped w ↦ λ s. behind_here c.args.stop c.args.text.now c.args.from
          c.loop-at.at i.0 c.loop-at.auto.at l i.1 c.loop-at.parser i.2 w.if-not-is_escaped.ensures
      | else-is_stop-via-else-is_stop w ↦ λ s. absurd (cc (s, w.if-is_stop.ensures))
    ])

pub loop-at-preserved : goal.loop-at-preserved
loop-at-preserved c =
    let i = c.loop-at.invariant in
    let some = rw c.in-Some.is at c.in_ok-next.ensures.some in
    let next = some i.0 i.2 in (
      next.0,
      more_here c.args.stop c.args.text.now c.args.from c.loop-at.at i.0 next.0 c.loop-at.auto.at
          c.loop-at-test.true i.1 next.1,
      next.2,
      omega (
        arith,
        i.3,
        read_near i.0 next.0 (get_or c.args.text.now c.loop-at.at 0) next.1,
      ),
    )

pub returns-clause-read : goal.returns-clause-read
returns-clause-read c =
    let i = c.loop-at.invariant in
    let e : c.loop-at.at ≡ length c.args.text.now = omega (
      arith,
      c.loop-at-test.false,
      c.loop-at.auto.at-end c.requires,
    ) in
    let l : c.loop-at.at ≤ length c.args.text.now = omega (arith, e) in
    let ok = rw (sym e) at c.finish-2.ensures.ok in
    IfOk-weaker c.finish-2.result _ _ (λ answer f. (finished_here c.args.stop c.args.text.now c.args.from c.loop-at.at
    i.0 c.loop-at.auto.at l i.1 (inl e) c.loop-at.parser i.2 answer.0 answer.1 f).0) ok

pub returns-clause-small : goal.returns-clause-small
returns-clause-small c =
    let i = c.loop-at.invariant in
    let e : c.loop-at.at ≡ length c.args.text.now = omega (
      arith,
      c.loop-at-test.false,
      c.loop-at.auto.at-end c.requires,
    ) in
    let l : c.loop-at.at ≤ length c.args.text.now = omega (arith, e) in
    let ok = rw (sym e) at c.finish-2.ensures.ok in
    IfOk-weaker c.finish-2.result _ _ (λ answer f. (finished_here c.args.stop c.args.text.now c.args.from c.loop-at.at
    i.0 c.loop-at.auto.at l i.1 (inl e) c.loop-at.parser i.2 answer.0 answer.1 f).1) ok

pub returns-clause-refused : goal.returns-clause-refused
returns-clause-refused c =
    let i = c.loop-at.invariant in
    let e : c.loop-at.at ≡ length c.args.text.now = omega (
      arith,
      c.loop-at-test.false,
      c.loop-at.auto.at-end c.requires,
    ) in
    let l : c.loop-at.at ≤ length c.args.text.now = omega (arith, e) in
    let err = rw (sym e) at c.finish-2.ensures.err in
    IfErr-weaker c.finish-2.result _ _ (λ fault f. fails_here c.args.stop c.args.text.now c.args.from c.loop-at.at i.0
    c.loop-at.auto.at l i.1 (inl e) c.loop-at.parser i.2 (λ k. absurd (omega (arith, e, k))) fault f) err
