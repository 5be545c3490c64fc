use Rattle.std.proofs.Common.{◌≡◌, ◌+◌, ◌++◌, length}
use Rattle.core_windows.specs.Panes.{windows_of}
use Rattle.core_answers.specs.Texts.{index_from}
use Rattle.core_answers.proofs.texts.index_of.Given as goal

abbrev pub invariant-loop-rest : goal.invariant-loop-rest
invariant-loop-rest l = record {
  here : l.window + length (windows_of l.rest) ≡ l.next;
  told : l.bytes ++ index_from l.window (windows_of l.rest) ≡ index_from 1 (windows_of l.panes);
}

abbrev pub decreases-loop-rest : goal.decreases-loop-rest
decreases-loop-rest l = length l.rest
