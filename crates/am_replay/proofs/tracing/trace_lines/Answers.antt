use Rattle.std.proofs.Common.{sym, ap, subst, ◌∙◌}
use Rattle.am_text.specs.Lines.{lines_of}
use Rattle.am_journal.specs.declared.event.Format.{Format}
use Rattle.acme_core.specs.Run.{Editor}
use Rattle.am_replay.specs.Playing.{Stops}
use Rattle.am_replay.specs.Scripts.{Script, script_behind}
use Rattle.am_replay.proofs.Ran.{behind_it}
use Rattle.am_replay.proofs.Traced.{traces_end, traces_none}
use Rattle.am_replay.proofs.tracing.trace_lines.Goals as goal

pub returns-in_default-clause-traces : goal.returns-in_default-clause-traces
returns-in_default-clause-traces g c =
    let behind = behind_it c.args.bytes.now c.split_heading-format.result.1.now c.split_heading-format.result.0
    c.split_heading-format.ensures.format c.split_heading-format.ensures.rest in
    rw (c.no_events.ensures.end, c.no_events.ensures.journal, sym behind)
    (traces_none c.split_heading-format.result.0 (lines_of c.split_heading-format.result.1.now)
    (g.O.Sink.told c.args.output.now))

pub returns-clause-traces : goal.returns-clause-traces
returns-clause-traces g c =
    let P : Script → Type 0 = λ s. Stops c.play_words-played.result.stop s c.play_words-played.new.core.journal in
    let format = ap (λ (x : Editor). x.journal.format) c.in-Ok.ensures in
    let behind = ap (λ (f : Format). script_behind f (lines_of c.split_heading-format.result.1.now)) format
    ∙ behind_it c.args.bytes.now c.split_heading-format.result.1.now c.split_heading-format.result.0
    c.split_heading-format.ensures.format c.split_heading-format.ensures.rest in
    rw c.finish.ensures.journal
    (traces_end c.play_words-played.result.stop c.play_words-played.result.failed _ c.play_words-played.new.core.journal
    _ _ _ c.finish.result.end
    (subst P behind c.play_words-played.ensures.stops) c.play_words-played.ensures.shown c.finish.ensures.ends)
