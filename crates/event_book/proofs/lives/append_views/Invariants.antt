use Rattle.std.proofs.Common.{◌≡◌, ◌++◌, drop, suc}
use Rattle.event_book.specs.Lives.{views_from}
use Rattle.event_book.specs.Shown.{shown}
use Rattle.event_book.proofs.lives.append_views.Given as goal

abbrev pub invariant-loop-i : goal.invariant-loop-i
invariant-loop-i l =
    l.views ++ views_from l.window (suc l.i) (drop l.i (shown l.settled l.all)) ≡ l.initial.views ++ views_from l.window
    1 (shown l.settled l.all)
