use Rattle.std.proofs.Common.{◌≡◌, ◌++◌}
use Rattle.core_stores.proofs.growing.Growing.extend.Given as goal

abbrev pub invariant-loop-item : goal.invariant-loop-item
invariant-loop-item g l =
    (goal.iterator-loop-item g).can_next l.item-iterator ×
    (goal.iterator-loop-item g).is_finite l.item-iterator ×
    (l.self.present ≡ l.fn.self.present ++ l.yielded) ×
    (l.self.kept ≡ l.fn.self.kept)
