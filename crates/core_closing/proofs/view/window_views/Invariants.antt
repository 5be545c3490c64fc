use Rattle.std.proofs.Common.{◌≡◌, ◌+◌, ◌++◌, length}
use Rattle.core_windows.specs.Panes.{windows_of}
use Rattle.core_closing.specs.Views.{window_views}
use Rattle.core_closing.proofs.view.window_views.Given as goal

abbrev pub invariant-loop-rest : goal.invariant-loop-rest
invariant-loop-rest l = record {
  here : l.id + length (windows_of l.rest) ≡ l.next;
  told : l.views ++ window_views l.id (windows_of l.rest) ≡ window_views 1 (windows_of l.panes);
}

abbrev pub decreases-loop-rest : goal.decreases-loop-rest
decreases-loop-rest l = length l.rest
