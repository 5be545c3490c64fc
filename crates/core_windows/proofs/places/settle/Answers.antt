use Rattle.core_windows.proofs.Rooms as rooms
use Rattle.core_windows.proofs.places.settle.Goals as goal

pub returns-then-at-len : goal.returns-then-at-len
returns-then-at-len c =
    rooms.windows_kept c.args.panes.now.items c.in-Restore.at c.index_mut.result.now c.settle_slot.new.slot
    c.index_mut.ensures.value c.settle_slot.ensures
