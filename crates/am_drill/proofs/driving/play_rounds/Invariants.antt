use Rattle.std.proofs.Common.{◌≡◌, ◌^◌, ◌<◌, None}
use Rattle.am_drill.specs.Brief.{IsCounted}
use Rattle.am_drill.specs.Drill.{seed_of, drill_journal}
use Rattle.am_drill.proofs.driving.play_rounds.Given as goal

abbrev pub invariant-loop-done : goal.invariant-loop-done
invariant-loop-done l = record {
  done : l.runner.core.journal ≡ drill_journal l.done;
  idle : l.runner.core.planned ≡ None;
  counted : IsCounted l.runner.count l.runner.core.journal;
  seed : l.seed ≡ seed_of l.done;
  small : l.seed < 2 ^ 31;
}
