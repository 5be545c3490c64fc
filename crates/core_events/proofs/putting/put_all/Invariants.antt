use Rattle.std.proofs.Common.{◌≡◌, fold}
use Rattle.core_events.specs.Putting.{put_one}
use Rattle.core_events.proofs.putting.put_all.Given as goal

abbrev pub invariant-loop-item : goal.invariant-loop-item
invariant-loop-item l =
    (goal.iterator-loop-item).can_next l.item-iterator ×
    (goal.iterator-loop-item).is_finite l.item-iterator ×
    (l.book.kept ≡ l.fn.book.kept) ×
    (l.book.present ≡ fold put_one l.fn.book.present l.yielded)
