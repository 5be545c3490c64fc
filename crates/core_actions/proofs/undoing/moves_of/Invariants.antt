use Rattle.std.proofs.Common.{◌≡◌, ◌+◌, ◌++◌, ◌<◌, ◌^◌, length}
use Rattle.core_windows.specs.Panes.{windows_of}
use Rattle.core_actions.specs.Undoing.{moves_from}
use Rattle.core_actions.proofs.undoing.moves_of.Given as goal

abbrev pub invariant-loop-rest : goal.invariant-loop-rest
invariant-loop-rest l = record {
  told : l.deeds ++ moves_from l.group.way l.group.number l.window (windows_of l.rest) ≡ moves_from l.group.way
      l.group.number 1 l.windows.present;
  few : l.window + length l.rest < 2 ^ 32;
}

abbrev pub decreases-loop-rest : goal.decreases-loop-rest
decreases-loop-rest l = length l.rest
