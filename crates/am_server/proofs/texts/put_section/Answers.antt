use Rattle.std.proofs.lemmas.Result.{err_from_is_err_and}
use Rattle.std.proofs.Common.{◌<◌, arith, drop, length, take, get_or, [], ◌+◌}
use Rattle.std.specs.List.{concat}
use Rattle.am_journal.specs.Sections.{section_parts}
use Rattle.am_journal.proofs.Parted.{parts_more}
use Rattle.am_server.proofs.Putting.{parts_split, stops_more, whole_more}
use Rattle.am_server.proofs.texts.put_section.Goals as goal

pub loop-at-preserved : goal.loop-at-preserved
loop-at-preserved g c =
    let ps = section_parts c.args.view.now c.args.section in
    let k = c.loop-at.at in
    let before = c.loop-at.invariant in
    let lt : k < length ps = omega (arith, c.loop-at-test.true, c.part_count-at-end.ensures) in
    record {
      put = whole_more (g.O.Sink.told c.args.output.now) (g.O.Sink.told c.loop-at.output)
          (g.O.Sink.told c.put_part.new.output)
          (concat (take k ps)) (get_or ps k []) (concat (take (k + 1) ps)) (parts_more ps k lt) before.put
          c.in_ok-put_part.ensures.ok;
      later = omega (arith, before.later, c.put_part.ensures.later);
    }

pub returns-in_err-put_part-clause-err : goal.returns-in_err-put_part-clause-err
returns-in_err-put_part-clause-err g c =
    let p = err_from_is_err_and c.from_residual.result c.from_residual.ensures.1 in
    let ps = section_parts c.args.view.now c.args.section in
    let k = c.loop-at.at in
    let before = c.loop-at.invariant in
    let lt : k < length ps = omega (arith, c.loop-at-test.true, c.part_count-at-end.ensures) in
    rw (p.1, p.2)
    (stops_more c.in_err-put_part.field-0.0 (g.O.Sink.told c.args.output.now) (g.O.Sink.told c.loop-at.output)
    (g.O.Sink.told c.put_part.new.output)
    (λ n. concat (take n ps)) k (get_or ps k []) (concat (drop (k + 1) ps)) (concat ps)
    (parts_more ps k lt) (parts_split ps (k + 1))
    before.put before.later c.in_err-put_part.ensures.err)
