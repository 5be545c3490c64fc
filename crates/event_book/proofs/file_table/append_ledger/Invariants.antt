use Rattle.std.proofs.Common.{◌≡◌, ◌++◌, drop}
use Rattle.event_book.specs.WindowFiles.{ledger_of}
use Rattle.event_book.specs.Table.{files_in, present_of}
use Rattle.event_book.proofs.file_table.append_ledger.Given as goal

abbrev pub invariant-loop-at : goal.invariant-loop-at
invariant-loop-at l =
    l.views ++ ledger_of (files_in present_of (drop l.at-index l.all))
    ≡ l.initial.views ++ ledger_of (files_in present_of l.all)
