use Rattle.std.proofs.Common.{◌≡◌, ◌+◌, length, sym, ap, subst, ◌∙◌, arith}
use Rattle.std.proofs.lemmas.Grind.{common_steps}
use Rattle.am_text.specs.Lines.{lines_of}
use Rattle.am_journal.specs.declared.event.Journal.{Journal}
use Rattle.am_journal.specs.Journal.{first_line}
use Rattle.am_serve.proofs.Passing.{first_small}
use Rattle.acme_core.specs.Run.{Editor, settled}
use Rattle.am_replay.specs.Scripts.{script_behind}
use Rattle.core_laws.specs.Fronts.{IsFront}
use Rattle.am_replay.proofs.Ran.{begins, goes_on, stops_at, ends_at, front_of}
use Rattle.am_replay.proofs.Traced.{has_last, words_start, words_entry, traced_start, wrote_entry, short_of, none_done}
use Rattle.am_replay.proofs.tracing.play_words.Goals as goal

pub loop-rest-init : goal.loop-rest-init
loop-rest-init g c =
    let e = ap (λ (x : Editor). x.journal) c.requires in
    record {
      count = let first = first_small c.format.result in omega (arith, first, c.first_line-k.ensures.number);
      settled = c.requires ∙ ap settled (sym e);
      script = begins c.args.core.now.journal c.first_line-k.result c.args.input.now e
          (c.first_line-k.ensures.number ∙ ap first_line c.format.ensures);
      wrote = traced_start _ _ _ _ _ e c.put_heading-failed.ensures;
      worded = words_start _ _ e;
    }

pub entry_text-requires : goal.entry_text-requires
entry_text-requires g c = has_last _ _ c.in-Event.ensures.did.1

pub loop-rest-preserved : goal.loop-rest-preserved
loop-rest-preserved g c = record {
  count = omega (arith, c.loop-rest.invariant.count, c.split_line.ensures.shorter);
  settled = c.do_line.ensures.settled;
  script = goes_on c.loop-rest.core.journal c.do_line.new.core.journal c.loop-rest.k c.split_line.result.0.now
      c.loop-rest.rest.now c.split_line.result.1.now _
      c.split_line.ensures.lines c.in-Event.ensures.did c.loop-rest.invariant.script;
  wrote = wrote_entry c.loop-rest.failed c.put-failed.result _ _ _ c.loop-rest.core.journal c.do_line.new.core.journal
      c.as_slice.result.now
      c.in-Event.ensures.did.1 (λ b e is. c.as_slice.ensures ∙ c.in-Ok.ensures.text b e is) c.loop-rest.invariant.wrote
      c.put-failed.ensures;
  worded = words_entry c.loop-rest.core.journal c.do_line.new.core.journal c.in-Event.ensures.did.1
      c.loop-rest.invariant.worded c.in-Ok.ensures.worded;
}

pub returns-in-Err-clause-stops : goal.returns-in-Err-clause-stops
returns-in-Err-clause-stops g c =
    front_of c.do_line.new.core.journal (c.loop-rest.k + 1) c.split_line.result.1.now _
    (goes_on c.loop-rest.core.journal c.do_line.new.core.journal c.loop-rest.k c.split_line.result.0.now
    c.loop-rest.rest.now c.split_line.result.1.now _
    c.split_line.ensures.lines c.in-Event.ensures.did c.loop-rest.invariant.script)

pub returns-in-Err-clause-shown : goal.returns-in-Err-clause-shown
returns-in-Err-clause-shown g c = short_of c.loop-rest.core.journal c.do_line.new.core.journal _ _
    c.in-Event.ensures.did.1 c.loop-rest.invariant.wrote

pub returns-in-Report-clause-stops : goal.returns-in-Report-clause-stops
returns-in-Report-clause-stops g c =
    stops_at c.loop-rest.core.journal c.do_line.new.core.journal c.loop-rest.k c.split_line.result.0.now
    c.loop-rest.rest.now c.split_line.result.1.now _ _
    c.split_line.ensures.lines c.in-Report.ensures.did.0 c.loop-rest.invariant.script

pub returns-in-Refused-clause-stops : goal.returns-in-Refused-clause-stops
returns-in-Refused-clause-stops g c =
    stops_at c.loop-rest.core.journal c.do_line.new.core.journal c.loop-rest.k c.split_line.result.0.now
    c.loop-rest.rest.now c.split_line.result.1.now _ _
    c.split_line.ensures.lines c.in-Refused.ensures.did.0 c.loop-rest.invariant.script

pub returns-in-NoMemory-clause-stops : goal.returns-in-NoMemory-clause-stops
returns-in-NoMemory-clause-stops g c =
    let P : Journal → Type 0 = λ x. IsFront x
    (script_behind c.args.core.now.journal.format (lines_of c.args.input.now)).journal in
    subst P (sym c.in-NoMemory.ensures.did) (front_of c.loop-rest.core.journal c.loop-rest.k c.loop-rest.rest.now _
    c.loop-rest.invariant.script)

pub returns-in-NoMemory-clause-shown : goal.returns-in-NoMemory-clause-shown
returns-in-NoMemory-clause-shown g c = none_done c.loop-rest.core.journal c.do_line.new.core.journal _ _
    c.in-NoMemory.ensures.did c.loop-rest.invariant.wrote

pub returns-clause-stops : goal.returns-clause-stops
returns-clause-stops g c =
    let nothing : length c.loop-rest.rest.now ≡ 0 = grind (arith, common_steps) in
    ends_at c.loop-rest.core.journal c.loop-rest.k c.loop-rest.rest.now _ nothing c.loop-rest.invariant.script
