use Rattle.std.proofs.Common.{◌≡◌, fold}
use Rattle.core_events.specs.Putting.{put_if_lives, ending}
use Rattle.core_events.proofs.putting.put_living.Given as goal

abbrev pub invariant-loop-item : goal.invariant-loop-item
invariant-loop-item l = record {
  next : (goal.iterator-loop-item).can_next l.item-iterator;
  ends : (goal.iterator-loop-item).is_finite l.item-iterator;
  kept : l.book.kept ≡ l.fn.book.kept;
  put : l.book.present ≡ fold (put_if_lives l.deleted) l.fn.book.present l.yielded;
  aside : l.aside ≡ ending l.deleted l.yielded;
}
