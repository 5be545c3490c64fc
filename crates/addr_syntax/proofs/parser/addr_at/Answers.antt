use Rattle.std.proofs.Common.{◌≡◌, ◌∙◌, false, drop, sym, arith}
use Rattle.std.proofs.lemmas.Result.{err_from_is_err_and}
use Rattle.addr_syntax.specs.Joined.{whole}
use Rattle.addr_syntax.specs.Marks.{next_of, begins_piece}
use Rattle.addr_syntax.proofs.Fronts.{step_from, addr_read, step_fails_from, limited_fails_from, stops_at_end}
use Rattle.addr_syntax.proofs.Fronts.{stops_there}
use Rattle.addr_syntax.proofs.parser.addr_at.Goals as goal
use Rattle.addr_syntax.proofs.parser.addr_at.Goals.{then-loop-at-test+else-begins_piece, else-loop-at-test}

pub loop-at-preserved : goal.loop-at-preserved
loop-at-preserved c =
    let i = c.loop-at.invariant in
    let on = c.in_ok-next.ensures.ok i.0 i.2 in
    (on.1, step_from c.args.text.now c.args.from c.loop-at.at c.in_ok-next.end i.0 on.1 on.0 i.1 on.2 on.3, on.4)

pub returns-in_err-next-clause-refused : goal.returns-in_err-next-clause-refused
returns-in_err-next-clause-refused c =
    let i = c.loop-at.invariant in
    let p = err_from_is_err_and c.from_residual.result c.from_residual.ensures.1 in
    rw (p.1, p.2) (step_fails_from c.args.text.now c.args.from c.loop-at.at i.0 i.1 c.loop-at-test.true
    (sym c.begins_piece.ensures ∙ c.if-begins_piece.true) c.in_err-next.field-0.0
    (c.in_err-next.ensures.err i.0 i.2))

pub returns-in_err-in_limits-clause-refused : goal.returns-in_err-in_limits-clause-refused
returns-in_err-in_limits-clause-refused c =
    let i = c.loop-at.invariant in
    let text = c.args.text.now in
    let at = c.loop-at.at in
    let stop : begins_piece (next_of (drop at text)) ≡ false = elim c.loop-at-test.branch [
      | then-loop-at-test+else-begins_piece w ↦ stops_there text at w.loop-at-test.true
          (sym w.begins_piece.ensures ∙ w.if-begins_piece.false)
      | else-loop-at-test w ↦ stops_at_end text at (omega (arith, w.loop-at-test.false, i.1.within))
    ] in
    let p = err_from_is_err_and c.from_residual-in_err-in_limits.result c.from_residual-in_err-in_limits.ensures.1 in
    rw (p.1, p.2) (limited_fails_from text c.args.from at i.0 i.1 stop c.in_err-in_limits.field-0.0
    (c.in_err-in_limits.ensures.err i.0 i.2))

pub returns-clause-read : goal.returns-clause-read
returns-clause-read c =
    let i = c.loop-at.invariant in
    let text = c.args.text.now in
    let at = c.loop-at.at in
    let stop : begins_piece (next_of (drop at text)) ≡ false = elim c.loop-at-test.branch [
      | then-loop-at-test+else-begins_piece w ↦ stops_there text at w.loop-at-test.true
          (sym w.begins_piece.ensures ∙ w.if-begins_piece.false)
      | else-loop-at-test w ↦ stops_at_end text at (omega (arith, w.loop-at-test.false, i.1.within))
    ] in
    let built = c.in_ok-in_limits.ensures.ok i.0 i.2 in
    (whole i.0, built, addr_read text c.args.from at i.0 c.in_ok-in_limits.field-0 i.1 stop built)
