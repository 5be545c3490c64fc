use Rattle.std.proofs.Common.{◌≡◌, ◌≤◌, ◌+◌, length}
use Rattle.am_base.specs.Seen.{seen}
use Rattle.am_text.specs.Lines.{lines_of}
use Rattle.acme_core.specs.Run.{settled}
use Rattle.am_replay.specs.Scripts.{play, script_behind}
use Rattle.am_replay.specs.Traces.{traced, AreAllWorded}
use Rattle.am_replay.specs.Written.{Wrote}
use Rattle.am_replay.proofs.tracing.play_words.Given as goal

abbrev pub invariant-loop-rest : goal.invariant-loop-rest
invariant-loop-rest g l = record {
  count : l.k + length l.rest ≤ length l.input + 2;
  settled : l.core ≡ settled l.core.journal;
  script : play l.core.journal l.k (lines_of l.rest) ≡ script_behind l.fn.core.journal.format (lines_of l.input);
  wrote : Wrote l.failed (seen (g.O.Sink.told l.fn.output) (g.O.Sink.told l.output)) (traced l.core.journal);
  worded : AreAllWorded l.core.journal;
}

abbrev pub decreases-loop-rest : goal.decreases-loop-rest
decreases-loop-rest g l = length l.rest
