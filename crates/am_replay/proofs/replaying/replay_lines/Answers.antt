use Rattle.std.proofs.Common.{sym, ap, subst, ◌∙◌}
use Rattle.am_text.specs.Lines.{lines_of}
use Rattle.am_journal.specs.declared.event.Format.{Format}
use Rattle.acme_core.specs.Run.{Editor}
use Rattle.am_replay.specs.Playing.{Stops}
use Rattle.am_replay.specs.Scripts.{Script, script_behind}
use Rattle.am_replay.proofs.Ran.{ran_end, ran_none, behind_it}
use Rattle.am_replay.proofs.replaying.replay_lines.Goals as goal

pub returns-in_default-clause-ran : goal.returns-in_default-clause-ran
returns-in_default-clause-ran g c =
    let behind = behind_it c.args.bytes.now c.split_heading-format.result.1.now c.split_heading-format.result.0
    c.split_heading-format.ensures.format c.split_heading-format.ensures.rest in
    rw (c.no_events.ensures.end, c.no_events.ensures.journal, sym behind)
    (ran_none c.split_heading-format.result.0 (lines_of c.split_heading-format.result.1.now)
    (g.O.Sink.told c.args.output.now))

pub returns-clause-ran : goal.returns-clause-ran
returns-clause-ran g c =
    let P : Script → Type 0 = λ s. Stops c.play-played.result.stop s c.play-played.new.core.journal in
    let format = ap (λ (x : Editor). x.journal.format) c.in-Ok.ensures in
    let behind = ap (λ (f : Format). script_behind f (lines_of c.split_heading-format.result.1.now)) format
    ∙ behind_it c.args.bytes.now c.split_heading-format.result.1.now c.split_heading-format.result.0
    c.split_heading-format.ensures.format c.split_heading-format.ensures.rest in
    rw c.finish.ensures.journal
    (ran_end c.play-played.result.stop c.play-played.result.failed _ c.play-played.new.core.journal _ _ _
    c.finish.result.end
    (subst P behind c.play-played.ensures.stops) c.play-played.ensures.shows c.finish.ensures.ends)
