use Rattle.std.proofs.Common.{◌≡◌, length, sym, ◌∙◌, subst, arith}
use Rattle.std.proofs.lemmas.Grind.{common_steps}
use Rattle.am_replay.specs.declared.packing.Did.{Did}
use Rattle.std.specs.List.{AllByRecursion}
use Rattle.am_journal.specs.declared.event.Journal.{Journal}
use Rattle.am_journal.specs.Lawful.{IsLawful, IsInRange}
use Rattle.am_serve.proofs.Passing.{first_small}
use Rattle.am_replay.specs.Packing.{DidLine}
use Rattle.am_replay.proofs.Packings.{begins, goes_on, stops_at, ends_at}
use Rattle.am_replay.proofs.packing.read_lines.Goals as goal

pub loop-rest-init : goal.loop-rest-init
loop-rest-init c =
    let first = first_small c.split_heading-format.result.0 in
    record {
      count = omega (arith, first, c.first_line-k.ensures.number, c.split_heading-format.ensures.shorter);
      read = begins c.empty_journal-journal.result c.first_line-k.result c.split_heading-format.result.1.now
          c.args.input.now c.split_heading-format.result.0 c.empty_journal-journal.ensures c.first_line-k.ensures.number
          c.split_heading-format.ensures.format c.split_heading-format.ensures.rest;
      lawful = subst (λ (x : Journal). AllByRecursion IsLawful x.events) (sym c.empty_journal-journal.ensures) tt;
      in_range = subst (λ (x : Journal). AllByRecursion IsInRange x.events) (sym c.empty_journal-journal.ensures) tt;
    }

pub loop-rest-preserved : goal.loop-rest-preserved
loop-rest-preserved c =
    let P : Did → Type 0 = λ d. DidLine d c.loop-rest.journal c.split_line.result.0.now c.put_line.new.journal in
    record {
      count = omega (arith, c.loop-rest.invariant.count, c.split_line.ensures.shorter);
      read = goes_on c.loop-rest.journal c.put_line.new.journal c.loop-rest.k c.split_line.result.0.now
          c.loop-rest.rest.now c.split_line.result.1.now _
          c.split_line.ensures.lines (subst P c.in-Read.is c.in_ok-put_line.ensures.did) c.loop-rest.invariant.read;
      lawful = c.in_ok-put_line.ensures.lawful;
      in_range = c.in_ok-put_line.ensures.in_range;
    }

pub returns-in-Report-clause-exact : goal.returns-in-Report-clause-exact
returns-in-Report-clause-exact c =
    let P : Did → Type 0 = λ d. DidLine d c.loop-rest.journal c.split_line.result.0.now c.put_line.new.journal in
    let did = subst P c.in-Report.is c.in_ok-put_line.ensures.did in
    c.at_end.ensures
    ∙ stops_at c.loop-rest.journal c.loop-rest.k c.split_line.result.0.now c.loop-rest.rest.now
    c.split_line.result.1.now _ _ c.split_line.ensures.lines
    (λ go. did c.loop-rest.k go) c.loop-rest.invariant.read

pub returns-in-Nothing-clause-exact : goal.returns-in-Nothing-clause-exact
returns-in-Nothing-clause-exact c =
    let P : Did → Type 0 = λ d. DidLine d c.loop-rest.journal c.split_line.result.0.now c.put_line.new.journal in
    let did = subst P c.in-Nothing.is c.in_ok-put_line.ensures.did in
    c.refused_at.ensures
    ∙ stops_at c.loop-rest.journal c.loop-rest.k c.split_line.result.0.now c.loop-rest.rest.now
    c.split_line.result.1.now _ _ c.split_line.ensures.lines
    (λ go. did c.loop-rest.k go) c.loop-rest.invariant.read

pub returns-clause-exact : goal.returns-clause-exact
returns-clause-exact c =
    let nothing : length c.loop-rest.rest.now ≡ 0 = grind (arith, common_steps) in
    c.at_end-2.ensures ∙ ends_at c.loop-rest.journal c.loop-rest.k c.loop-rest.rest.now _ nothing
    c.loop-rest.invariant.read
