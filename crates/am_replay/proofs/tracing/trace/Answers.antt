use Rattle.std.proofs.Common.{◌≤◌, length, sym, subst, List, ℕ}
use Rattle.am_base.specs.Outside.{AreTold}
use Rattle.am_base.specs.Stops.{StopsFor}
use Rattle.am_base.specs.declared.reading.ReadStop.{ReadStop}
use Rattle.am_base.specs.Stops.{input_limit}
use Rattle.am_replay.proofs.Traced.{says_short, says_long, says_none}
use Rattle.am_replay.proofs.tracing.trace.Goals as goal

pub returns-in-Ok-clause-says : goal.returns-in-Ok-clause-says
returns-in-Ok-clause-says g c =
    let T : List ℕ → Type 0 = λ x. AreTold (g.I.Source.told c.args.input.now).bytes x in
    let F : List ℕ → Type 0 = λ x. length x ≤ input_limit in
    let told = subst T (sym c.as_slice.ensures) c.in-Ok.ensures.told in
    let fits = subst F (sym c.as_slice.ensures) c.in-Ok.ensures.fits in
    says_short c.trace_lines.result.end c.as_slice.result.now _ _ _ _ fits told c.trace_lines.ensures.traces

pub returns-in-Err-TooLong-clause-says : goal.returns-in-Err-TooLong-clause-says
returns-in-Err-TooLong-clause-says g c =
    let P : ReadStop → Type 0 = λ x. StopsFor x (g.I.Source.told c.args.input.now)
    (g.I.Source.told c.read_to_end.new.source) input_limit in
    let stopped = subst P c.in-Err-TooLong.field-0-is c.in-Err-TooLong.ensures.err in
    says_long c.refuse_input.result.end (g.I.Source.told c.args.input.now) _ _ _ stopped.0 c.refuse_input.ensures.traces

pub returns-in-Err-NoMemory-clause-says : goal.returns-in-Err-NoMemory-clause-says
returns-in-Err-NoMemory-clause-says g c =
    rw (c.no_events-in-Err-NoMemory.ensures.end, c.no_events-in-Err-NoMemory.ensures.journal)
    (says_none (g.I.Source.told c.args.input.now) (g.I.Source.told c.read_to_end.new.source)
    (g.O.Sink.told c.args.output.now))
