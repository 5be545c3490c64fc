use Rattle.std.proofs.Common.{◌≡◌, length, arith, refl, sym, ap, subst, ◌∙◌}
use Rattle.std.proofs.lemmas.Grind.{common_steps}
use Rattle.am_counter.specs.Known.{Known}
use Rattle.am_journal.specs.Journal.{first_line}
use Rattle.am_serve.specs.Script.{asked_by_script, asked_by_lines, Passed}
use Rattle.am_serve.proofs.Passing.{first_small, none_so_far, passes_next, so_far_gains, looks_same, looks_equal}
use Rattle.am_serve.proofs.Passing.{reported, refused, out, ended}
use Rattle.am_serve.proofs.scripting.script_side.Goals as goal

pub returns-then-not-begin_script-clause-gains : goal.returns-then-not-begin_script-clause-gains
returns-then-not-begin_script-clause-gains g c =
    let v = g.C.Counter.known c.args.seat.now in
    so_far_gains g.C.Counter.enabled g.C.Counter.answer _ v _ _ _ _
    (none_so_far g.C.Counter.enabled g.C.Counter.answer v c.args.script.now.lines.now _ _ refl refl) (looks_same v)

pub returns-then-not-begin_script-clause-ends : goal.returns-then-not-begin_script-clause-ends
returns-then-not-begin_script-clause-ends g c =
    let v = g.C.Counter.known c.args.seat.now in
    out g.C.Counter.enabled g.C.Counter.answer _ v _ _ _ _
    (none_so_far g.C.Counter.enabled g.C.Counter.answer v c.args.script.now.lines.now _ _ refl refl) (looks_same v)

pub loop-rest-init : goal.loop-rest-init
loop-rest-init g c = record {
  fits = c.requires.fits;
  count =
      let first = first_small c.split_heading-format.result.0 in
      omega (arith, first, c.first_line-line.ensures.number, c.split_heading-format.ensures.shorter);
  so_far = none_so_far g.C.Counter.enabled g.C.Counter.answer (g.C.Counter.known c.args.seat.now)
      c.args.script.now.lines.now _ _ (ap asked_by_lines (sym c.split_heading-format.ensures.rest))
      (c.first_line-line.ensures.number ∙ ap first_line c.split_heading-format.ensures.format);
}

pub loop-rest-preserved : goal.loop-rest-preserved
loop-rest-preserved g c = record {
  fits = c.do_line.ensures.fits;
  count = omega (arith, c.loop-rest.invariant.count, c.split_line.ensures.shorter);
  so_far =
      passes_next g.C.Counter.enabled g.C.Counter.answer _ (g.C.Counter.known c.loop-rest.seat) _ _ c.loop-rest.rest.now
      c.split_line.result.1.now c.split_line.result.0.now _
      c.split_line.ensures.lines c.loop-rest.invariant.so_far c.in-Passed.ensures.does;
}

pub returns-in-Report-clause-gains : goal.returns-in-Report-clause-gains
returns-in-Report-clause-gains g c =
    so_far_gains g.C.Counter.enabled g.C.Counter.answer _ (g.C.Counter.known c.loop-rest.seat) _ _ _ _
    c.loop-rest.invariant.so_far (looks_equal _ _ c.in-Report.ensures.does.1)

pub returns-in-Report-clause-ends : goal.returns-in-Report-clause-ends
returns-in-Report-clause-ends g c =
    let P : Known → Type 0 = λ w. Passed g.C.Counter.enabled g.C.Counter.answer (g.C.Counter.known c.args.seat.now)
    (asked_by_script c.args.script.now.lines.now) w in
    subst P (sym c.in-Report.ensures.does.1)
    (reported g.C.Counter.enabled g.C.Counter.answer _ _ _ c.loop-rest.rest.now c.split_line.result.1.now
    c.split_line.result.0.now _ c.split_line.ensures.lines c.loop-rest.invariant.so_far c.in-Report.ensures.does.0)

pub returns-in-Refused-clause-gains : goal.returns-in-Refused-clause-gains
returns-in-Refused-clause-gains g c =
    so_far_gains g.C.Counter.enabled g.C.Counter.answer _ (g.C.Counter.known c.loop-rest.seat) _ _ _ _
    c.loop-rest.invariant.so_far c.in-Refused.ensures.does.0

pub returns-in-Refused-clause-ends : goal.returns-in-Refused-clause-ends
returns-in-Refused-clause-ends g c =
    refused g.C.Counter.enabled g.C.Counter.answer c.args.script.now.clients _ (g.C.Counter.known c.loop-rest.seat) _ _
    c.loop-rest.rest.now c.split_line.result.1.now c.split_line.result.0.now _ _
    c.split_line.ensures.lines c.loop-rest.invariant.so_far c.in-Refused.ensures.does.0 c.in-Refused.ensures.does.1

pub returns-in-NoMemory-clause-gains : goal.returns-in-NoMemory-clause-gains
returns-in-NoMemory-clause-gains g c =
    so_far_gains g.C.Counter.enabled g.C.Counter.answer _ (g.C.Counter.known c.loop-rest.seat) _ _ _ _
    c.loop-rest.invariant.so_far c.in-NoMemory.ensures.does

pub returns-in-NoMemory-clause-ends : goal.returns-in-NoMemory-clause-ends
returns-in-NoMemory-clause-ends g c =
    out g.C.Counter.enabled g.C.Counter.answer _ (g.C.Counter.known c.loop-rest.seat) _ _ _ _
    c.loop-rest.invariant.so_far c.in-NoMemory.ensures.does

pub returns-clause-gains : goal.returns-clause-gains
returns-clause-gains g c =
    so_far_gains g.C.Counter.enabled g.C.Counter.answer _ (g.C.Counter.known c.loop-rest.seat) _ _ _ _
    c.loop-rest.invariant.so_far (looks_same (g.C.Counter.known c.loop-rest.seat))

pub returns-clause-ends : goal.returns-clause-ends
returns-clause-ends g c =
    let nothing : length c.loop-rest.rest.now ≡ 0 = grind (arith, common_steps) in
    ended g.C.Counter.enabled g.C.Counter.answer _ _ _ c.loop-rest.rest.now _ nothing c.loop-rest.invariant.so_far
