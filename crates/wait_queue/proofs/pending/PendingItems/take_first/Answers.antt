use Rattle.std.proofs.Common.{drop-drop}
use Rattle.wait_queue.proofs.pending.PendingItems.take_first.Goals as goal

pub returns : goal.returns
returns c = rw (← c.self.view_is) (simp drop-drop)
