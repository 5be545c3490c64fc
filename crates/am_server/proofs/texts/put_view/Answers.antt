use Rattle.std.proofs.lemmas.Result.{err_from_is_err_and}
use Rattle.std.proofs.Common.{◌<◌, arith, length, rules}
use Rattle.am_server.proofs.Putting.{report_stops, section_put, section_stops, six_sections}
use Rattle.am_server.proofs.texts.put_view.Goals as goal

pub loop-section-preserved : goal.loop-section-preserved
loop-section-preserved g c =
    let before = c.loop-section.invariant in
    let lt : c.loop-section.section-index < length c.sections.result =
    omega (arith, c.loop-section-test.true, six_sections c.sections.result before.all) in
    record {
      all = before.all;
      put = section_put c.args.view.now (g.O.Sink.told c.args.output.now) (g.O.Sink.told c.loop-section.output)
          (g.O.Sink.told c.put_section.new.output) c.sections.result c.loop-section.section-index _
          lt before.put c.in_ok-put_section.ensures.ok (search rules);
      later = omega (arith, before.later, c.put_section.ensures.later);
    }

pub returns-in_err-put_section-clause-err : goal.returns-in_err-put_section-clause-err
returns-in_err-put_section-clause-err g c =
    let p = err_from_is_err_and c.from_residual.result c.from_residual.ensures.1 in
    let v = c.args.view.now in
    let before = c.loop-section.invariant in
    let lt : c.loop-section.section-index < length c.sections.result =
    omega (arith, c.loop-section-test.true, six_sections c.sections.result before.all) in
    rw (p.1, p.2)
    (report_stops v c.in_err-put_section.field-0.0 (g.O.Sink.told c.args.output.now)
    (g.O.Sink.told c.put_section.new.output) c.sections.result before.all (c.reports_are_their_parts.ensures v)
    (section_stops v c.in_err-put_section.field-0.0 (g.O.Sink.told c.args.output.now)
    (g.O.Sink.told c.loop-section.output) (g.O.Sink.told c.put_section.new.output) c.sections.result
    c.loop-section.section-index _ lt before.put before.later
    c.in_err-put_section.ensures.err (search rules)))
