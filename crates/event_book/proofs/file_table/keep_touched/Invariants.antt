use Rattle.std.proofs.Common.{◌≡◌, vec_len}
use Rattle.event_book.specs.Table.{files_in, present_of, IsTable}
use Rattle.event_book.proofs.file_table.keep_touched.Given as goal

abbrev pub invariant-loop-window : goal.invariant-loop-window
invariant-loop-window l = record {
  table : IsTable l.touched.items l.all.items;
  same : files_in present_of l.all.items ≡ files_in present_of l.initial.all.items;
}

abbrev pub decreases-loop-window : goal.decreases-loop-window
decreases-loop-window l = vec_len l.touched
